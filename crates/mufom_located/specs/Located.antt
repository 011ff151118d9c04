-- What is known about the parts of a location.
use Rattle.std.specs.Prelude.{ℕ, List, [], ◌∷◌}
use Rattle.mufom_module.specs.declared.module.Parts.{Parts}
use Rattle.mufom_module.specs.Defects.{IsValid}
use Rattle.mufom_plan.specs.declared.plan.Plan.{Plan}
use Rattle.mufom_meaning.specs.declared.located.LocatedParts.{LocatedParts}
use Rattle.mufom_meaning.specs.declared.located.Run.{Run}
use Rattle.mufom_meaning.specs.Location.{IsLocation}
use Rattle.mufom_meaning.specs.AddressMap.{AreApart}

-- the parts are the location of a module without a defect, by a plan
pub record IsLocated (parts : LocatedParts) : Type 0 where
  pub source : Parts
  pub plan : Plan
  pub valid : IsValid source
  pub is : IsLocation (source ∷ []) plan parts

-- runs in the order of their addresses, none of them empty, with at least one address between two of them
abbrev pub AreRuns : List Run → Type 0
AreRuns runs = (from : ℕ) × AreApart from runs
