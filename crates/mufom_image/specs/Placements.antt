-- The sections and commons of a module, placed by a plan.
use Rattle.std.specs.Prelude.{◌≡◌, ℕ, List, [], ◌∷◌, length, take, drop, Option, None}
use Rattle.mufom_sections.specs.declared.section.Section.{Section}
use Rattle.mufom_module.specs.declared.module.Parts.{Parts}
use Rattle.mufom_module.specs.Defects.{IsValid}
use Rattle.mufom_plan.specs.declared.plan.Plan.{Plan}
use Rattle.mufom_place.specs.declared.refusal.PlaceRefusal.{PlaceRefusal}
use Rattle.mufom_place.specs.Facts.{place_refusal}
use Rattle.mufom_meaning.specs.Flat.{flat_sections, width}
use Rattle.mufom_meaning.specs.Placed.{placed_commons, extended_sections, base_list}
use Rattle.mufom_image_values.specs.declared.resolutions.Resolution.{Resolution}
use Rattle.mufom_image_values.specs.declared.values.PlacedModule.{PlacedModule}

-- what keeps the sections and commons of the module from being placed by the plan
abbrev pub placing_refusal : Parts → Plan → Option PlaceRefusal
placing_refusal m plan = place_refusal (width (m ∷ [])) plan (flat_sections (m ∷ [])) (placed_commons (m ∷ []) plan)

-- nothing keeps the sections and commons of the module from being placed, and these are they and their bases
pub record ArePlaced (m : Parts) (plan : Plan) (placed : List Section) (at : List ℕ) : Type 0 where
  pub none : placing_refusal m plan ≡ None
  pub sections : placed ≡ extended_sections (m ∷ []) plan
  pub bases : at ≡ base_list (m ∷ []) plan

-- `placed` is this module, without a defect, with these resolutions of its references; the first bases are those of its sections, the others those of
-- its commons
pub record StandsAt (m : Parts) (met : List Resolution) (all : List ℕ) (placed : PlacedModule) : Type 0 where
  pub valid : IsValid placed.graph.parts.now
  pub parts : placed.graph.parts.now ≡ m
  pub resolutions : placed.graph.resolutions.now ≡ met
  pub bases : placed.bases.now ≡ take (length m.sections) all
  pub commons : placed.commons.now ≡ drop (length m.sections) all
