use Rattle.mufom_run_laws.proofs.StageLaws.{runs-of-stages}
use Rattle.mufom_run_laws.proofs.laws.runs_of_stages.Goals as goal

pub returns : goal.returns
returns c = runs-of-stages
