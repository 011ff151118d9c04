use Rattle.mufom_bounds.proofs.PlanSizes.{text-within}
use Rattle.mufom_bounds.proofs.laws.plans_are_bounded.Goals as goal

pub returns : goal.returns
returns c = text-within
