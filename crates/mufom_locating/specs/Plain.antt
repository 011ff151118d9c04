-- Plans that need no more than sections and commons.
use Rattle.std.specs.Prelude.{◌≡◌, []}
use Rattle.mufom_plan.specs.declared.plan.Plan.{Plan}
use Rattle.mufom_planned.specs.PlanLaws.{AreLoadedInPlace}

-- the plan has no symbols, and loads each region where it is
pub record IsPlain (plan : Plan) : Type 0 where
  pub symbols : plan.symbols ≡ []
  pub loads : AreLoadedInPlace plan.regions
