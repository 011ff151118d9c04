use Rattle.mufom_planned.proofs.Exists as laws
use Rattle.mufom_planned.proofs.laws.planned_locations_exist.Goals as goal

pub returns : goal.returns
returns c = laws.planned_locations_exist
