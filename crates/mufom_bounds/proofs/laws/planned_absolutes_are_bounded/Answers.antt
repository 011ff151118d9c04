use Rattle.mufom_bounds.proofs.PlannedBounded.{planned-bounded}
use Rattle.mufom_bounds.proofs.laws.planned_absolutes_are_bounded.Goals as goal

pub returns : goal.returns
returns c = planned-bounded
