use Rattle.mufom_run_laws.proofs.Determined.{answers-determined}
use Rattle.mufom_run_laws.proofs.laws.answers_are_determined.Goals as goal

pub returns : goal.returns
returns c = answers-determined
