use Rattle.mufom_planned.proofs.Absolute as laws
use Rattle.mufom_planned.proofs.laws.planned_absolute_weighs.Goals as goal

pub returns : goal.returns
returns c = laws.planned_absolute_weighs
