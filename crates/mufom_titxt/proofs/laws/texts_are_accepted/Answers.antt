use Rattle.mufom_titxt.proofs.MapLaws.{map_is_accepted, map_cells}
use Rattle.mufom_titxt.proofs.laws.texts_are_accepted.Goals as goal

pub returns-clause-accepted : goal.returns-clause-accepted
returns-clause-accepted c text width cells m = map_is_accepted text width cells m

pub returns-clause-cells : goal.returns-clause-cells
returns-clause-cells c text width cells m = map_cells text width cells m
