use Rattle.mufom_works.proofs.Runs.{one-verdict}
use Rattle.mufom_run_laws.proofs.laws.files_have_one_verdict.Goals as goal

pub returns : goal.returns
returns c = one-verdict
