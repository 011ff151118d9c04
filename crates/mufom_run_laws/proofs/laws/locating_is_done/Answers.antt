use Rattle.mufom_run_laws.proofs.LocatingDone.{locating-done}
use Rattle.mufom_run_laws.proofs.laws.locating_is_done.Goals as goal

pub returns : goal.returns
returns c = locating-done
