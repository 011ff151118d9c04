-- One step of what bodies do not unfold: values, counters, readings and what is returned in place of a location.
use Rattle.std.proofs.Common.{◌≡◌, ℕ, zero, suc, ◌+◌, List, [], ◌∷◌, map, flat_map, Option, None, refl}
use Rattle.std.specs.Prelude.{◌%◌, ◌==◌, option_map, option_to_list, slice_get, if◌then◌else◌}
use Rattle.mufom_expr.specs.Tree.{Tree}
use Rattle.mufom_expr.specs.Value.{value_at}
use Rattle.mufom_loads.specs.declared.load.Item.{Item}
use Rattle.mufom_loads.specs.Lengths.{byte_count}
use Rattle.mufom_debug.specs.Marks.{marks_of}
use Rattle.mufom_module.specs.declared.module.Parts.{Parts}
use Rattle.mufom_plan.specs.declared.plan.Plan.{Plan}
use Rattle.mufom_place.specs.Facts.{◌or_else◌, first_some, place_refusal}
use Rattle.mufom_meaning.specs.Bases.{Bases}
use Rattle.mufom_meaning.specs.Flat.{Sited, sited, public_names, flat_sections, width}
use Rattle.mufom_meaning.specs.Values.{Setting, setting, environment, value_within, value}
use Rattle.mufom_meaning.specs.Placed.{placed_commons, planned_bases}
use Rattle.mufom_meaning.specs.Steps.{Step, counter_step, item_step, steps, counter, step_readings}
use Rattle.mufom_meaning.specs.Readings.{readings, public_reading, mark_reading}
use Rattle.mufom_meaning.specs.Facts.{undefined, common_unplaced, placement}
use Rattle.mufom_meaning.specs.Counts.{loaded_total}
use Rattle.mufom_meaning.specs.Walk.{step_fact, steps_fact, walk_answer}
use Rattle.mufom_meaning.specs.LocateAnswer.{first_undefined, first_unplaced_common, locate_answer, cycle_at, image_limit_at}

-- with no step left a public has no value
pub value_within-zero : (s : Setting) (site : Sited) (pc : Option ℕ) (t : Tree) → value_within s zero site pc t
    ≡ value_at s.modulus (environment s (λ site' t'. None) site pc) t
unfolding value_within
value_within-zero s site pc t = refl

-- the value of a public is that of its expression with one step less
pub value_within-suc : (s : Setting) (k : ℕ) (site : Sited) (pc : Option ℕ) (t : Tree)
    → value_within s (suc k) site pc t ≡ value_at s.modulus (environment s (λ site' t'. value_within s k site' None t') site pc) t
unfolding value_within
value_within-suc s k site pc t = refl

-- before all steps a section's counter is its base
pub counter-none : (s : Setting) (section : ℕ) → counter s [] section ≡ option_map (λ base. base % s.modulus) (slice_get s.bases section)
unfolding counter
counter-none s section = refl

-- a step that sets a counter sets that of its section alone
pub counter-set : (s : Setting) (earlier : List Step) (site : Sited) (other section : ℕ) (t : Tree)
    → counter s (counter_step site other t ∷ earlier) section ≡ (if other == section then value s site (counter s earlier section) t
    else counter s earlier section)
unfolding counter
counter-set s earlier site other section t = refl

-- an item moves the counter of its section alone, by its length
pub counter-item : (s : Setting) (earlier : List Step) (site : Sited) (other section : ℕ) (item : Item)
    → counter s (item_step site other item ∷ earlier) section
    ≡ (if other == section then option_map (λ pc. (pc + byte_count item) % s.modulus) (counter s earlier section) else counter s earlier section)
unfolding counter
counter-item s earlier site other section item = refl

-- the parts of what a list means
pub readings-sections : (ms : List Parts) (placed : Bases) → (readings ms placed).sections ≡ flat_sections ms
unfolding readings
readings-sections ms placed = refl

pub readings-publics : (ms : List Parts) (placed : Bases) → (readings ms placed).publics ≡ map (public_reading (setting ms placed)) (setting ms placed).publics
unfolding readings
readings-publics ms placed = refl

pub readings-steps : (ms : List Parts) (placed : Bases) → (readings ms placed).steps ≡ step_readings (setting ms placed) (steps ms)
unfolding readings
readings-steps ms placed = refl

pub readings-starts : (ms : List Parts) (placed : Bases)
    → (readings ms placed).starts ≡ flat_map (λ site. map (value (setting ms placed) site None) (option_to_list site.parts.start)) (sited ms)
unfolding readings
readings-starts ms placed = refl

pub readings-debug : (ms : List Parts) (placed : Bases)
    → (readings ms placed).debug ≡ flat_map (λ site. map (mark_reading (setting ms placed) site) (marks_of site.parts.debug)) (sited ms)
unfolding readings
readings-debug ms placed = refl

-- a walk over steps meets what the first has, or else what the others have after it
pub steps_fact-cons : (s : Setting) (earlier : List Step) (step : Step) (more : List Step) → steps_fact s earlier (step ∷ more)
    ≡ (step_fact s earlier step or_else steps_fact s (step ∷ earlier) more)
steps_fact-cons s earlier step more = refl

-- the answers in their order
pub locate_answer-order : (ms : List Parts) (plan : Plan) → locate_answer ms plan
    ≡ (option_map placement (place_refusal (width ms) plan (flat_sections ms) (placed_commons ms plan))
    or_else (option_map undefined (first_undefined ms)
    or_else (option_map common_unplaced (first_unplaced_common ms plan)
    or_else (first_some (cycle_at ms) (public_names ms)
    or_else (image_limit_at (loaded_total ms)
    or_else walk_answer ms (setting ms (planned_bases ms plan)))))))
unfolding locate_answer
locate_answer-order ms plan = refl
