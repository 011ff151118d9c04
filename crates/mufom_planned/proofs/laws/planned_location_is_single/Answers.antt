use Rattle.mufom_planned.proofs.Single as laws
use Rattle.mufom_planned.proofs.laws.planned_location_is_single.Goals as goal

pub returns : goal.returns
returns c = laws.planned_location_is_single
