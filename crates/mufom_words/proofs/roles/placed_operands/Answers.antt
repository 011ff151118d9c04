-- Without arguments there are no operands.
use Rattle.std.proofs.Common.{◌≡◌, ◌∙◌, ◌<◌, ◌++◌, ℕ, List, [], ◌∷◌, ap, arith, length, map, refl, sym}
use Rattle.std.proofs.lemmas.List.{append-nil, length-map}
use Rattle.std.specs.String.{string_bytes}
use Rattle.mufom_words.specs.declared.roles.Role.{Role}
use Rattle.mufom_words.specs.Faulty.{placed_from}
use Rattle.mufom_words.specs.Options.{Text}
use Rattle.mufom_words.proofs.roles.placed_operands.Goals as goal

placed-none : (n : ℕ) (roles : List Role) (words : List Text) → length words < 1 → placed_from n roles words ≡ []
placed-none n [] words few = refl
placed-none n (r ∷ roles) [] few = refl
placed-none n (r ∷ roles) (word ∷ words) few = absurd (omega arith)

pub returns-in_default-clause-operands : goal.returns-in_default-clause-operands
returns-in_default-clause-operands c =
    let none = placed-none c.loop-role.place _ (map (λ word. string_bytes word) c.loop-role.left.now) (rw length-map c.in_default.len_below) in
    sym (append-nil c.loop-role.placed.items) ∙ ap (λ rest. c.loop-role.placed.items ++ rest) (sym none) ∙ c.loop-role.invariant.rest
