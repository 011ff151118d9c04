use Rattle.mufom_meaning.proofs.facts.Linked.{facts_agree}
use Rattle.mufom_meaning.proofs.staging_laws.facts_agree.Goals as goal

pub returns : goal.returns
returns c = facts_agree
