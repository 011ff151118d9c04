use Rattle.mufom_run_laws.proofs.Results.{plain-runs-have-results}
use Rattle.mufom_run_laws.proofs.laws.plain_runs_have_results.Goals as goal

pub returns : goal.returns
returns c = plain-runs-have-results
