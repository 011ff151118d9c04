-- The fact that linking a list of modules returns in place of a module.
use Rattle.std.specs.Prelude.{ℕ, ◌==◌, List, [], ◌∷◌, find, Option, Some, None, option_map, Bool, true, false, not, ◌&&◌, if◌then◌else◌}
use Rattle.mufom_expr.specs.Tree.{Tree}
use Rattle.mufom_module.specs.declared.module.Order.{Order}
use Rattle.mufom_module.specs.declared.module.Order.TheVariants.{Least, Most}
use Rattle.mufom_module.specs.declared.module.Parts.{Parts}
use Rattle.mufom_plan.specs.Names.{has_name}
use Rattle.mufom_place.specs.Facts.{◌or_else◌}
use Rattle.mufom_meaning.specs.Flat.{flat_starts, public_names}
use Rattle.mufom_meaning.specs.Facts.{descriptor, LinkFact, mismatch, duplicate, duplicate_start}

-- two byte orders are the same
abbrev pub same_order : Order → Order → Bool
same_order Least Least = true
same_order Most Most = true
same_order Least Most = false
same_order Most Least = false

-- two modules have the same descriptor
abbrev pub same_descriptor : Parts → Parts → Bool
same_descriptor m n = (m.maus == n.maus) && same_order m.order n.order

-- the first module whose descriptor is not that of the first
abbrev pub first_mismatch : List Parts → Option LinkFact
first_mismatch [] = None
first_mismatch (m ∷ ms) = option_map (λ other. mismatch (descriptor m) (descriptor other)) (find (λ other. not (same_descriptor m other)) ms)

-- the first name that also occurs earlier
abbrev pub first_duplicate : List (List ℕ) → List (List ℕ) → Option (List ℕ)
first_duplicate earlier [] = None
first_duplicate earlier (name ∷ names) = if has_name earlier name then Some name else first_duplicate (name ∷ earlier) names

-- more than one start
abbrev pub two_starts : List Tree → Option LinkFact
two_starts (first ∷ second ∷ more) = Some duplicate_start
two_starts (first ∷ []) = None
two_starts [] = None

-- the fact that linking the list returns in place of a module, if any: a mismatch, a duplicate name or a second start, in this order
abbrev pub link_answer : List Parts → Option LinkFact
link_answer ms = first_mismatch ms or_else (option_map duplicate (first_duplicate [] (public_names ms)) or_else two_starts (flat_starts ms))
