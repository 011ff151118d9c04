use Rattle.mufom_run_laws.proofs.Verdicts.{files-have-a-verdict}
use Rattle.mufom_run_laws.proofs.laws.files_have_a_verdict.Goals as goal

pub returns : goal.returns
returns c = files-have-a-verdict
