use Rattle.mufom_run_laws.proofs.KeptExist.{what-is-kept-exists}
use Rattle.mufom_run_laws.proofs.laws.what_is_kept_exists.Goals as goal

pub returns : goal.returns
returns c = what-is-kept-exists
