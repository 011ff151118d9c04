-- What is known about plans.
use Rattle.mufom_plan.specs.declared.plan.Plan.{Plan}
use Rattle.mufom_plan.specs.Loads.{AreLoads}
use Rattle.mufom_plan.specs.SoundPlans.{IsSoundPlan}
use Rattle.mufom_planned.specs.PlanLaws.{HasSoundSymbols}

-- What every plan meets once it is read: it can place sections, its symbols have different names, and each region is loaded where it is,
-- or into another region that is loaded where it is.
pub record IsReadPlan (plan : Plan) : Type 0 where
  pub placed : IsSoundPlan plan
  pub symbols : HasSoundSymbols plan
  pub loads : AreLoads plan.regions
