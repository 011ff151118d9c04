use Rattle.mufom_run_laws.proofs.Marks.{marks-exist}
use Rattle.mufom_run_laws.proofs.laws.marks_exist.Goals as goal

pub returns : goal.returns
returns c = marks-exist
