-- Laws about the meaning and the location of modules without debug items.
use Rattle.std.specs.Prelude.{◌≡◌, List}
use Rattle.mufom_module.specs.declared.module.Parts.{Parts}
use Rattle.mufom_plan.specs.declared.plan.Plan.{Plan}
use Rattle.mufom_meaning.specs.declared.located.LocatedParts.{LocatedParts}
use Rattle.mufom_meaning.specs.Absolute.{absolute_of}
use Rattle.mufom_meaning.specs.Bases.{Bases}
use Rattle.mufom_meaning.specs.LocateAnswer.{locate_answer}
use Rattle.mufom_meaning.specs.Location.{IsLocation}
use Rattle.mufom_meaning.specs.Readings.{readings}
use Rattle.mufom_debug_laws.specs.Without.{without_debug, all_without_debug, readings_without_debug, fact_without_debug, located_without_debug}

-- Wherever their sections and commons are placed, modules mean the same without their debug items, except for what those mean.
abbrev pub ReadingsLoseDebugAlone : Type 0
ReadingsLoseDebugAlone = (ms : List Parts) (bases : Bases) → readings (all_without_debug ms) bases ≡ readings_without_debug (readings ms bases)

-- Without their debug items, modules that can be located by a plan have the same location, without its debug items, and no other:
-- the same sections at the same bases, values of publics, runs of bytes and start address. So its absolute module is the same too,
-- without its debug items. The same fact is returned in place of a location, unless it is found in a debug expression.
pub record HasSameLocation (ms : List Parts) (plan : Plan) : Type 0 where
  pub answer : locate_answer (all_without_debug ms) plan ≡ fact_without_debug (locate_answer ms plan)
  pub location : (r : LocatedParts) → IsLocation ms plan r → IsLocation (all_without_debug ms) plan (located_without_debug r)
  pub only : (r other : LocatedParts) → IsLocation ms plan r → IsLocation (all_without_debug ms) plan other → other ≡ located_without_debug r
  pub absolute : (r : LocatedParts) → absolute_of (located_without_debug r) ≡ without_debug (absolute_of r)

-- This holds for every list and every plan.
abbrev pub LocationsLoseDebugAlone : Type 0
LocationsLoseDebugAlone = (ms : List Parts) (plan : Plan) → HasSameLocation ms plan
