-- What is kept in any case, if something is left out.
use Rattle.std.specs.Prelude.{ℕ, List, [], ◌∷◌, Option, Some, None, not}
use Rattle.std.specs.List.{find}
use Rattle.mufom_module.specs.declared.module.Parts.{Parts}
use Rattle.mufom_plan.specs.declared.plan.Plan.{Plan}
use Rattle.mufom_plan.specs.Names.{has_name}
use Rattle.mufom_meaning.specs.Flat.{public_names}

-- names of public symbols, and names of sections that always stay
pub record Roots : Type 0 where
  pub names : List (List ℕ)
  pub stays : List (List ℕ)

-- The roots for the names in the arguments and for the plan's names of sections; none if the arguments have no name, and then all is kept.
abbrev pub roots_with : List (List ℕ) → List (List ℕ) → Option Roots
roots_with [] stays = None
roots_with (name ∷ names) stays = Some (record { names = name ∷ names; stays = stays })

abbrev pub roots_by : List (List ℕ) → Plan → Option Roots
roots_by names plan = roots_with names plan.keep

-- the first of the names that no public of the list has
abbrev pub first_unknown : List Parts → List (List ℕ) → Option (List ℕ)
first_unknown ms names = find (λ name. not (has_name (public_names ms) name)) names
