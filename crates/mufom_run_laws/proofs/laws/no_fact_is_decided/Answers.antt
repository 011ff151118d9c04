use Rattle.mufom_run_laws.proofs.KeptExist.{no-fact-decided}
use Rattle.mufom_run_laws.proofs.laws.no_fact_is_decided.Goals as goal

pub returns : goal.returns
returns c = no-fact-decided
