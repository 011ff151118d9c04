-- Laws about locations and selected members.
use Rattle.std.specs.Prelude.{◌≡◌, ℕ, List, [], ◌∷◌, ◌≢◌, ◌+◌, ◌*◌, ◌<◌, ◌≤◌, length, filter, Option, Some, None, ◌^◌, Contains}
use Rattle.mufom_debug.specs.Marks.{DebugMark}
use Rattle.mufom_module.specs.declared.module.Parts.{Parts}
use Rattle.mufom_module.specs.Defects.{IsValid}
use Rattle.mufom_module.specs.Written.{weight}
use Rattle.mufom_plan.specs.declared.plan.Plan.{Plan}
use Rattle.mufom_meaning.specs.declared.located.LocatedParts.{LocatedParts}
use Rattle.mufom_meaning.specs.Flat.{flat_sections, flat_references, is_common}
use Rattle.mufom_meaning.specs.Counts.{loaded_total}
use Rattle.mufom_meaning.specs.Placed.{planned_bases}
use Rattle.mufom_meaning.specs.StagingLaws.{total_weight}
use Rattle.mufom_meaning.specs.Readings.{readings, PublicReading, MarkReading, Readings}
use Rattle.mufom_meaning.specs.Location.{IsLocation, located_mark}
use Rattle.mufom_meaning.specs.Selection.{IsSelected}
use Rattle.mufom_meaning.specs.Values.{value}
use Rattle.mufom_meaning.specs.Steps.{StepReading, counter_reading, literal_reading, field_reading}
use Rattle.mufom_meaning.specs.LinkAnswer.{link_answer}
use Rattle.mufom_meaning.specs.LocateAnswer.{locate_answer}
use Rattle.mufom_meaning.specs.Absolute.{absolute_of, no_regions}
use Rattle.mufom_meaning.specs.Staging.{AreValid}

-- an expression has a value
abbrev pub HasValue : Option ℕ → Type 0
HasValue value = (n : ℕ) × (value ≡ Some n)

-- the numbers of a step have values: the one to which it sets a counter, the counter of an item, and the one of a field
abbrev pub StepHasValue : StepReading → Type 0
StepHasValue (counter_reading section value) = HasValue value
StepHasValue (literal_reading section at bytes) = HasValue at
StepHasValue (field_reading section at kind size value) = HasValue at × HasValue value

-- each expression has a value
pub record AreValued (r : Readings) : Type 0 where
  pub publics : (q : PublicReading) → Contains r.publics q → HasValue q.value
  pub steps : (step : StepReading) → Contains r.steps step → StepHasValue step
  pub starts : (value : Option ℕ) → Contains r.starts value → HasValue value
  pub debug : (mark : MarkReading) → Contains r.debug mark → (located : DebugMark) × (located_mark mark ≡ Some located)

-- If no fact holds about modules without a defect, each expression has a value.
abbrev pub AllValued : Type 0
AllValued =
    (ms : List Parts) (plan : Plan) → AreValid ms → link_answer ms ≡ None → locate_answer ms plan ≡ None
    → AreValued (readings ms (planned_bases ms plan))

-- If no fact holds about a list of modules without a defect, and the list is not empty, it has a location.
abbrev pub LocationsExist : Type 0
LocationsExist =
    (ms : List Parts) (plan : Plan) → ms ≢ [] → AreValid ms → link_answer ms ≡ None → locate_answer ms plan ≡ None
    → (r : LocatedParts) × IsLocation ms plan r

-- A list has at most one location by a plan.
abbrev pub LocationIsSingle : Type 0
LocationIsSingle = (ms : List Parts) (plan : Plan) (r q : LocatedParts) → IsLocation ms plan r → IsLocation ms plan q → r ≡ q

-- Locating the absolute module of a location alone, by a plan without regions, results in the same location.
abbrev pub AbsoluteIsLocatedAsItself : Type 0
AbsoluteIsLocatedAsItself =
    (ms : List Parts) (plan : Plan) (r : LocatedParts) → AreValid ms → IsLocation ms plan r → IsLocation (absolute_of r ∷ []) no_regions r

-- The absolute module of a location has no defect, if its weight is below 2^32.
abbrev pub AbsoluteIsValid : Type 0
AbsoluteIsValid =
    (ms : List Parts) (plan : Plan) (r : LocatedParts) → AreValid ms → IsLocation ms plan r → weight (absolute_of r) < 2 ^ 32
    → IsValid (absolute_of r)

-- the number of weak references of a size above 0
abbrev pub asking_count : List Parts → ℕ
asking_count ms = length (filter is_common (flat_references ms))

-- The absolute module of a location weighs at most as much as the list, plus 31 for each section, 31 for each loaded byte and 42
-- for each weak reference of a size above 0.
abbrev pub AbsoluteWeighs : Type 0
AbsoluteWeighs =
    (ms : List Parts) (plan : Plan) (r : LocatedParts) → AreValid ms → IsLocation ms plan r
    → weight (absolute_of r) ≤ total_weight ms + 31 * length (flat_sections ms) + 31 * loaded_total ms + 42 * asking_count ms

-- A list has at most one selection of members.
abbrev pub SelectionIsSingle : Type 0
SelectionIsSingle =
    (ms members : List Parts) (chosen other : List ℕ) → IsSelected ms members chosen → IsSelected ms members other → chosen ≡ other
