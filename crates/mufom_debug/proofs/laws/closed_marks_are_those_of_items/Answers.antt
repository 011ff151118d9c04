use Rattle.mufom_debug.proofs.Closed.{closed-marks}
use Rattle.mufom_debug.proofs.laws.closed_marks_are_those_of_items.Goals as goal

pub returns : goal.returns
returns c = closed-marks
