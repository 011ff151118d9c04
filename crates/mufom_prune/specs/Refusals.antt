-- The errors of pruning.
use Rattle.std.specs.Prelude.{◌≡◌, ℕ, List, [], ◌∷◌, Option, Some, false, not}
use Rattle.std.specs.List.{find}
use Rattle.mufom_module.specs.declared.module.Parts.{Parts}
use Rattle.mufom_plan.specs.Names.{has_name}
use Rattle.mufom_meaning.specs.Flat.{public_names}
use Rattle.mufom_refusals.specs.declared.prune.PruneRefusal.{PruneRefusal}
use Rattle.mufom_refusals.specs.declared.prune.PruneRefusal.TheVariants.{Unknown, NoMemory}

-- the first of the names that no public has
abbrev pub first_unknown : Parts → List (List ℕ) → Option (List ℕ)
first_unknown m names = find (λ name. not (has_name (public_names (m ∷ [])) name)) names

-- the error is the first of the names to keep that no public has; or it is out of memory
abbrev pub IsRefusalFor : Parts → List (List ℕ) → PruneRefusal → Type 0
IsRefusalFor m names (Unknown name) = first_unknown m names ≡ Some name
IsRefusalFor m names NoMemory = Unit {0}

-- the error is the one name to keep, and no public has that name; or it is out of memory
abbrev pub IsRefusalOf : Parts → List ℕ → PruneRefusal → Type 0
IsRefusalOf m keep (Unknown name) = (name ≡ keep) × (has_name (public_names (m ∷ [])) keep ≡ false)
IsRefusalOf m keep NoMemory = Unit {0}
