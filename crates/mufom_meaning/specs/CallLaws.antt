-- Laws that callers need: a module without a defect may be placed, the bases are found by position, and two ways to state that all
-- modules of a list are without a defect agree.
use Rattle.std.specs.Prelude.{◌≡◌, ◌<◌, ◌≤◌, ◌^◌, false, ◌↔◌, List, [], ◌∷◌, length, All, ℕ, ◌+◌, Some, None, slice_get, true}
use Rattle.std.specs.Str.{bytes_eq}
use Rattle.mufom_module.specs.declared.module.Parts.{Parts}
use Rattle.mufom_module.specs.Defects.{IsValid}
use Rattle.mufom_plan.specs.declared.plan.Plan.{Plan}
use Rattle.mufom_plan.specs.Commons.{has_common}
use Rattle.mufom_place.specs.Facts.{IsAddressWidth, IsAligned, HasNoBase, sections_before, last_sections}
use Rattle.mufom_meaning.specs.Flat.{distinct, flat_sections, common_names, width}
use Rattle.mufom_meaning.specs.Placed.{placed_commons, extended_sections, base_list, planned_bases}
use Rattle.mufom_meaning.specs.Staging.{AreValid}

-- The preconditions of placing, for the width of addresses and for the list of all sections, the last of which are the commons that
-- the plan places.
pub record MayBePlaced (ms : List Parts) (plan : Plan) : Type 0 where
  pub addresses : IsAddressWidth (width ms)
  pub alignments : All IsAligned (extended_sections ms plan)
  pub count : length (extended_sections ms plan) < 2 ^ 32
  pub few : length (placed_commons ms plan) ≤ length (extended_sections ms plan)
  pub somewhere : has_common plan.regions ≡ false → length (placed_commons ms plan) ≡ 0
  pub first : sections_before (length (placed_commons ms plan)) (extended_sections ms plan) ≡ flat_sections ms
  pub last : last_sections (length (placed_commons ms plan)) (extended_sections ms plan) ≡ placed_commons ms plan
  pub without_base : All HasNoBase (last_sections (length (placed_commons ms plan)) (extended_sections ms plan))

-- A module without a defect satisfies these preconditions for every plan.
abbrev pub ModulesMayBePlaced : Type 0
ModulesMayBePlaced = (m : Parts) (plan : Plan) → IsValid m → MayBePlaced (m ∷ []) plan

-- The bases by a plan are those of the one list of sections and commons: of a section by its flat number, and of a common by its
-- position after them. If no region takes commons, none has a base.
pub record AreByPosition (ms : List Parts) (plan : Plan) : Type 0 where
  pub of_sections : (n : ℕ) → n < length (flat_sections ms) → slice_get (planned_bases ms plan).sections n ≡ slice_get (base_list ms plan) n
  pub of_commons : has_common plan.regions ≡ true → (n : ℕ) (name : List ℕ) → slice_get (distinct bytes_eq (common_names ms)) n ≡ Some name
      → (planned_bases ms plan).commons name ≡ slice_get (base_list ms plan) (length (flat_sections ms) + n)
  pub of_no_common : has_common plan.regions ≡ false → (name : List ℕ) → (planned_bases ms plan).commons name ≡ None

-- This holds for all lists and plans.
abbrev pub BasesByPosition : Type 0
BasesByPosition = (ms : List Parts) (plan : Plan) → AreByPosition ms plan

-- Each element of a list is without a defect if and only if all modules of the list are.
abbrev pub AreValidIsAll : Type 0
AreValidIsAll = (ms : List Parts) → All IsValid ms ↔ AreValid ms
