use Rattle.mufom_works.proofs.ExplainSingle.{run_of-single}
use Rattle.mufom_run_laws.proofs.laws.runs_are_single.Goals as goal

pub returns : goal.returns
returns c = run_of-single
