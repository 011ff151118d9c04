-- The errors that keep a module from being located, stage by stage.
use Rattle.std.specs.Prelude.{◌≡◌, ℕ, ◌+◌, ◌*◌, ◌^◌, [], ◌∷◌, length, filter, take, drop, Option, Some, None, option_map}
use Rattle.std.specs.List.{enumerate_from}
use Rattle.mufom_expr.specs.Value.{value_at}
use Rattle.mufom_loads.specs.Lengths.{lengths_loaded}
use Rattle.mufom_module.specs.declared.module.Parts.{Parts}
use Rattle.mufom_module.specs.Written.{weight}
use Rattle.mufom_plan.specs.declared.plan.Plan.{Plan}
use Rattle.mufom_place.specs.Facts.{◌or_else◌, first_some}
use Rattle.mufom_meaning.specs.Bases.{Bases}
use Rattle.mufom_meaning.specs.Facts.{LocateFact, placement, undefined, common_unplaced}
use Rattle.mufom_meaning.specs.Flat.{public_names, is_common}
use Rattle.mufom_meaning.specs.LocateAnswer.{first_undefined, first_unplaced_common, cycle_at, image_limit_at}
use Rattle.mufom_meaning.specs.Counts.{loaded_total}
use Rattle.mufom_meaning.specs.Placed.{base_list}
use Rattle.mufom_meaning.specs.Values.{Setting}
use Rattle.mufom_meaning.specs.Walk.{public_fact, start_fact, start_trees, debug_fact, debug_trees}
use Rattle.mufom_image_values.specs.declared.values.PlacedModule.{PlacedModule}
use Rattle.mufom_image_values.specs.Evaluated.{bases_by, environment_of, setting_of}
use Rattle.mufom_image_bytes.specs.Modules.{IsReady}
use Rattle.mufom_image_bytes.specs.Outcomes.{ValuationAt}
use Rattle.mufom_image_entries.specs.declared.valued.ValuedModule.{ValuedModule}
use Rattle.mufom_image_entries.specs.Valued.{parts_of}
use Rattle.mufom_image.specs.Placements.{placing_refusal}

-- the sections and commons cannot be placed
abbrev pub unplaced : Parts → Plan → Option LocateFact
unplaced m plan = option_map placement (placing_refusal m plan)

-- the first undefined strong reference
abbrev pub unresolved : Parts → Option LocateFact
unresolved m = option_map undefined (first_undefined (m ∷ []))

-- the first common, if no region takes the commons
abbrev pub roomless : Parts → Plan → Option LocateFact
roomless m plan = option_map common_unplaced (first_unplaced_common (m ∷ []) plan)

-- the first public that leads back to itself
abbrev pub circular : Parts → Option LocateFact
circular m = first_some (cycle_at (m ∷ [])) (public_names (m ∷ []))

-- the image has too many bytes
abbrev pub oversized : Parts → Option LocateFact
oversized m = image_limit_at (loaded_total (m ∷ []))

-- the first error once the module is placed and before its expressions are evaluated
abbrev pub judged : Parts → Plan → Option LocateFact
judged m plan = unresolved m or_else (roomless m plan or_else (circular m or_else oversized m))

-- there is no such error
pub record IsJudged (m : Parts) (plan : Plan) : Type 0 where
  pub undefined : unresolved m ≡ None
  pub commons : roomless m plan ≡ None
  pub acyclic : circular m ≡ None
  pub limit : oversized m ≡ None

-- the first public that divides by 0
abbrev pub public_division : Setting → Option LocateFact
public_division s = first_some (public_fact s) s.publics

-- the start, if it divides by 0
abbrev pub start_division : Parts → Setting → Option LocateFact
start_division m s = first_some (start_fact s) (start_trees (m ∷ []))

-- the first debug expression that divides by 0
abbrev pub debug_division : Parts → Setting → Option LocateFact
debug_division m s = first_some (debug_fact s) (enumerate_from 0 (debug_trees (m ∷ [])))

-- the first bases are those of the module's sections by the plan, the others those of its commons
pub record IsPlannedBy (plan : Plan) (placed : PlacedModule) : Type 0 where
  pub sections : placed.bases.now ≡ take (length placed.graph.parts.now.sections) (base_list (placed.graph.parts.now ∷ []) plan)
  pub commons : placed.commons.now ≡ drop (length placed.graph.parts.now.sections) (base_list (placed.graph.parts.now ∷ []) plan)

-- the bases of a placed module
abbrev pub bases_of : PlacedModule → Bases
bases_of placed = bases_by placed.graph.parts.now placed.bases.now placed.commons.now

-- the value of an expression of the module at a program counter
abbrev pub valuation_of : ValuedModule → ValuationAt
valuation_of valued counter t = value_at (2 ^ (8 * (parts_of valued).maus)) (environment_of valued.placed.now valued.values.now (Some counter)) t

-- the loads of the module may be walked over, unless a public divides by 0
pub record MayBeWalked (valued : ValuedModule) : Type 0 where
  pub ready : public_division (setting_of valued.placed.now) ≡ None
      → IsReady (parts_of valued) (bases_of valued.placed.now) valued.placed.now.bases.now (valuation_of valued)

-- The most that the module of a location weighs: what the located module weighs, and 31 more for each section, 31 for each loaded
-- byte and 42 for each weak reference of a size above 0.
abbrev pub most_weight : Parts → ℕ
most_weight m = weight m + 31 * length m.sections + 31 * lengths_loaded m.loads + 42 * length (filter is_common m.names.references)
