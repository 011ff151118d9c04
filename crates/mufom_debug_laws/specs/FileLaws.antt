-- Laws about lists of files whose debug parts are skipped.
use Rattle.std.specs.Prelude.{◌≡◌, ℕ, Bool, true, false, List, [], ◌∷◌}
use Rattle.mufom_records.specs.declared.options.ReadOptions.{ReadOptions}
use Rattle.mufom_module.specs.declared.module.Parts.{Parts}
use Rattle.mufom_plan.specs.declared.plan.Plan.{Plan}
use Rattle.mufom_judging.specs.Judging.{IsModule}
use Rattle.mufom_meaning.specs.declared.located.LocatedParts.{LocatedParts}
use Rattle.mufom_meaning.specs.Joined.{IsJoined}
use Rattle.mufom_meaning.specs.Location.{IsLocation}
use Rattle.mufom_planned.specs.Planned.{IsPlanned}
use Rattle.mufom_debug_laws.specs.Without.{without_debug, all_without_debug, located_without_debug}

-- these are files of the modules, one for each, if they are read with these options
abbrev pub AreFiles : ReadOptions → List (List ℕ) → List Parts → Type 0
AreFiles options [] [] = Unit {0}
AreFiles options (bytes ∷ files) (m ∷ ms) = IsModule options bytes m × AreFiles options files ms
AreFiles options [] (m ∷ ms) = ⊥
AreFiles options (bytes ∷ files) [] = ⊥

-- What the files of these modules are if their debug parts are skipped: files of the modules without their debug items, and of no
-- others. The modules that are then read have the same link and the same location by each plan, with or without
-- symbols and copies, but for debug items.
pub record AreFilesWithoutDebug (gnu : Bool) (files : List (List ℕ)) (ms : List Parts) : Type 0 where
  pub read : AreFiles (record { debug = false; gnu = gnu }) files (all_without_debug ms)
  pub only : (others : List Parts) → AreFiles (record { debug = false; gnu = gnu }) files others → others ≡ all_without_debug ms
  pub links : (others : List Parts) (M : Parts) (name : List ℕ) → AreFiles (record { debug = false; gnu = gnu }) files others
      → IsJoined M ms name → IsJoined (without_debug M) others name
  pub locations : (others : List Parts) (plan : Plan) (r : LocatedParts) → AreFiles (record { debug = false; gnu = gnu }) files others
      → IsLocation ms plan r → IsLocation others plan (located_without_debug r)
  pub plans : (others : List Parts) (plan : Plan) (r : LocatedParts) → AreFiles (record { debug = false; gnu = gnu }) files others
      → IsPlanned ms plan r → IsPlanned others plan (located_without_debug r)

-- This is true of all files that are read as modules with their debug parts.
abbrev pub FilesLoseDebugAlone : Type 0
FilesLoseDebugAlone = (gnu : Bool) (files : List (List ℕ)) (ms : List Parts) → AreFiles (record { debug = true; gnu = gnu }) files ms
    → AreFilesWithoutDebug gnu files ms
