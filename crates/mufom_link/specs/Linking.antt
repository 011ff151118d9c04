-- A partial link, with what it takes from the modules that it replaces.
use Rattle.std.specs.Prelude.{◌≡◌, ℕ, ◌+◌, ◌≤◌, List, [], ◌∷◌, length}
use Rattle.mufom_module.specs.declared.module.Parts.{Parts}
use Rattle.mufom_module.specs.Written.{weight}
use Rattle.mufom_meaning.specs.Flat.{flat_sections, public_names}
use Rattle.mufom_meaning.specs.Joined.{IsJoined}
use Rattle.mufom_meaning.specs.Staging.{StandsFor, HasSettledReferences}
use Rattle.mufom_meaning.specs.StagingLaws.{total_weight, first_name_length}

pub record IsPartialLink (M : Parts) (ms : List Parts) (name : List ℕ) : Type 0 where
  pub joined : IsJoined M ms name
  pub stands : StandsFor M ms
  pub sections : M.sections ≡ flat_sections ms
  pub names : public_names (M ∷ []) ≡ public_names ms
  pub settled : HasSettledReferences M
  pub weighs : weight M + first_name_length ms ≤ total_weight ms + length name
