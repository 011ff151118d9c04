use Rattle.mufom_meaning.proofs.facts.Chains.{cycles_are_short}
use Rattle.mufom_meaning.proofs.fact_laws.cycles_are_short.Goals as goal

pub returns : goal.returns
returns c = cycles_are_short
