use Rattle.std.proofs.Common.{◌≡◌, ◌∙◌, ◌&&◌, ◌||◌, ℕ, List, Bool, true, ap, sym}
use Rattle.std.specs.Str.{bytes_eq}
use Rattle.mufom_plan.specs.Names.{has_name}
use Rattle.mufom_place.specs.Bases.{has_no_base}
use Rattle.mufom_map.proofs.UnusedLaws.{name-more}
use Rattle.mufom_map.proofs.unused.add_placed.Goals as goal

pub returns-in_ok-add : goal.returns-in_ok-add
returns-in_ok-add c = λ entry.
    let names = c.args.names.now in let section = c.args.section.now in
    let alone : has_no_base section ≡ true = sym c.has_no_base.ensures ∙ c.if-has_no_base.true in
    ap (λ (ns : List (List ℕ)). has_name ns entry) c.in_ok-add.ensures.after
    ∙ name-more names c.as_slice.result.now _ c.in_ok-add.ensures.added entry
    ∙ ap (λ (n : List ℕ). has_name names entry || bytes_eq entry n) c.as_slice.ensures
    ∙ sym (ap (λ (b : Bool). has_name names entry || (b && bytes_eq entry section.name)) alone)
