use Rattle.mufom_planned.proofs.Locatable as laws
use Rattle.mufom_planned.proofs.laws.planned_is_locatable.Goals as goal

pub returns : goal.returns
returns c = laws.planned_is_locatable
