use Rattle.mufom_run_laws.proofs.KeptExist.{inputs-accepted}
use Rattle.mufom_run_laws.proofs.laws.inputs_are_accepted.Goals as goal

pub returns : goal.returns
returns c = inputs-accepted
