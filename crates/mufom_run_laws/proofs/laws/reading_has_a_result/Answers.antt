use Rattle.mufom_run_laws.proofs.Verdicts.{reading-has-a-result}
use Rattle.mufom_run_laws.proofs.laws.reading_has_a_result.Goals as goal

pub returns : goal.returns
returns c = reading-has-a-result
