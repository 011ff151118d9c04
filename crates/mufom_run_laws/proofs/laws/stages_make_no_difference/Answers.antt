use Rattle.mufom_run_laws.proofs.StageLaws.{stages-alike}
use Rattle.mufom_run_laws.proofs.laws.stages_make_no_difference.Goals as goal

pub returns : goal.returns
returns c = stages-alike
