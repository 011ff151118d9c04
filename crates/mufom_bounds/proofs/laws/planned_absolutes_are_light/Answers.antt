use Rattle.mufom_bounds.proofs.PlannedBounded.{planned-light}
use Rattle.mufom_bounds.proofs.laws.planned_absolutes_are_light.Goals as goal

pub returns : goal.returns
returns c = planned-light
