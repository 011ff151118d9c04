-- Laws about the location of modules without debug items by a plan with symbols and copies.
use Rattle.std.specs.Prelude.{◌≡◌, List, Option, Some, None, option_map}
use Rattle.mufom_module.specs.declared.module.Parts.{Parts}
use Rattle.mufom_plan.specs.declared.plan.Plan.{Plan}
use Rattle.mufom_meaning.specs.declared.located.LocatedParts.{LocatedParts}
use Rattle.mufom_planned.specs.Planned.{PlanFact, shared_name, of_list, planned_answer, IsPlanned}
use Rattle.mufom_debug_laws.specs.Without.{all_without_debug, fact_without_debug, located_without_debug}

-- the fact, unless it is found in a debug expression
abbrev pub plan_fact_without_debug : Option PlanFact → Option PlanFact
plan_fact_without_debug None = None
plan_fact_without_debug (Some (shared_name name)) = Some (shared_name name)
plan_fact_without_debug (Some (of_list fact)) = option_map of_list (fact_without_debug (Some fact))

-- Without their debug items, modules that can be located by a plan have the same location, without its debug items, and no other. The
-- same fact is returned in place of a location, unless it is found in a debug expression.
pub record IsPlannedAlike (ms : List Parts) (plan : Plan) : Type 0 where
  pub answer : planned_answer (all_without_debug ms) plan ≡ plan_fact_without_debug (planned_answer ms plan)
  pub location : (r : LocatedParts) → IsPlanned ms plan r → IsPlanned (all_without_debug ms) plan (located_without_debug r)
  pub only : (r other : LocatedParts) → IsPlanned ms plan r → IsPlanned (all_without_debug ms) plan other → other ≡ located_without_debug r

-- This holds for every list and every plan, also one with symbols and with regions that are loaded into others.
abbrev pub PlansLoseDebugAlone : Type 0
PlansLoseDebugAlone = (ms : List Parts) (plan : Plan) → IsPlannedAlike ms plan
