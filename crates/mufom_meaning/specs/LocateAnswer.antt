-- The fact that locating a list of modules by a plan returns in place of a location.
use Rattle.std.specs.Prelude.{ℕ, List, find, Option, Some, None, option_map, slice_get, not, nat_lt, if◌then◌else◌}
use Rattle.mufom_numbers.specs.declared.limits.TheConstants.{MOST_IMAGE_BYTES}
use Rattle.mufom_module.specs.declared.module.Parts.{Parts}
use Rattle.mufom_plan.specs.declared.plan.Plan.{Plan}
use Rattle.mufom_plan.specs.Names.{has_name}
use Rattle.mufom_plan.specs.Commons.{has_common}
use Rattle.mufom_place.specs.Facts.{◌or_else◌, first_some, place_refusal}
use Rattle.mufom_meaning.specs.Flat.{public_names, needs, common_names, flat_sections, width}
use Rattle.mufom_meaning.specs.Values.{setting}
use Rattle.mufom_meaning.specs.Placed.{placed_commons, planned_bases}
use Rattle.mufom_meaning.specs.Facts.{LocateFact, undefined, common_unplaced, cycle, image_limit, placement}
use Rattle.mufom_meaning.specs.Cycles.{is_on_cycle}
use Rattle.mufom_meaning.specs.Walk.{walk_answer}
use Rattle.mufom_meaning.specs.Counts.{loaded_total}

-- the first name that is needed and that neither a public nor a common has
abbrev pub first_undefined : List Parts → Option (List ℕ)
first_undefined ms = find (λ name. not (has_name (common_names ms) name)) (needs ms)

-- the first common, if no region of the plan takes commons
abbrev pub first_unplaced_common : List Parts → Plan → Option (List ℕ)
first_unplaced_common ms plan = if has_common plan.regions then None else slice_get (common_names ms) 0

-- a public whose expression leads back to its own name
abbrev pub cycle_at : List Parts → List ℕ → Option LocateFact
cycle_at ms name = if is_on_cycle ms name then Some (cycle name) else None

-- the fact that too many bytes are loaded, if there are more than 2 ^ 26
abbrev pub image_limit_at : ℕ → Option LocateFact
image_limit_at total = if nat_lt MOST_IMAGE_BYTES total then Some (image_limit total) else None

-- the fact that locating the list by the plan returns if everything can be placed, if any: the first one in this order
abbrev pub after_placing : List Parts → Plan → Option LocateFact
after_placing ms plan =
    option_map undefined (first_undefined ms)
    or_else (option_map common_unplaced (first_unplaced_common ms plan)
    or_else (first_some (cycle_at ms) (public_names ms)
    or_else (image_limit_at (loaded_total ms)
    or_else walk_answer ms (setting ms (planned_bases ms plan)))))

-- the fact that locating the list by the plan returns in place of a location, if any: the first one, placing before all others
unfoldable pub locate_answer : List Parts → Plan → Option LocateFact
locate_answer ms plan = option_map placement (place_refusal (width ms) plan (flat_sections ms) (placed_commons ms plan)) or_else after_placing ms plan
