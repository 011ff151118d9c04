-- If no name leads back to itself, a value is found from the values of the publics that it mentions: so each public is
-- evaluated once, after those.
use Rattle.std.proofs.Common.{◌≡◌, ℕ, suc, ◌+◌, List, length, Option, None, refl, sym, ◌∙◌, ap, arith}
use Rattle.mufom_expr.specs.Tree.{Tree}
use Rattle.mufom_expr.specs.Value.{value_at}
use Rattle.mufom_module.specs.declared.module.Parts.{Parts}
use Rattle.mufom_meaning.specs.Bases.{Bases}
use Rattle.mufom_meaning.specs.Flat.{Sited}
use Rattle.mufom_meaning.specs.Values.{Setting, setting, environment, value_within, value}
use Rattle.mufom_meaning.specs.Cycles.{IsOnCycle}
use Rattle.mufom_meaning.specs.Facts.{duplicate}
use Rattle.mufom_meaning.specs.Stands.{LinkFactStands}
use Rattle.mufom_meaning.proofs.values.Enough.{value_is_settled}

-- the value with one step more is found from the values
one_more : (s : Setting) (k : ℕ) (site : Sited) (pc : Option ℕ) (t : Tree)
    → value_within s (suc k) site pc t ≡ value_at s.modulus (environment s (λ x y. value_within s k x None y) site pc) t
unfolding value_within
one_more s k site pc t = refl

pub value_from_values : (ms : List Parts) (bs : Bases) → ((name : List ℕ) → ¬ LinkFactStands ms (duplicate name)) → ((name : List ℕ) → ¬ IsOnCycle ms name)
    → (site : Sited) (pc : Option ℕ) (t : Tree)
    → let s = setting ms bs in value s site pc t ≡ value_at s.modulus (environment s (λ x y. value s x None y) site pc) t
value_from_values ms bs once acyclic site pc t =
    let s = setting ms bs in
    let next : 1 + length s.publics ≡ suc (length s.publics) = omega arith in
    sym (value_is_settled ms bs once acyclic 1 site pc t)
    ∙ ap (λ n. value_within s n site pc t) next
    ∙ one_more s (length s.publics) site pc t
