use Rattle.mufom_run_laws.proofs.MakeDone.{make-done}
use Rattle.mufom_run_laws.proofs.laws.make_is_done.Goals as goal

pub returns : goal.returns
returns c = make-done
