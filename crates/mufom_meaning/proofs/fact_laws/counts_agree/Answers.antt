use Rattle.mufom_meaning.proofs.facts.StepCounts.{counts_agree}
use Rattle.mufom_meaning.proofs.fact_laws.counts_agree.Goals as goal

pub returns : goal.returns
returns c = counts_agree
