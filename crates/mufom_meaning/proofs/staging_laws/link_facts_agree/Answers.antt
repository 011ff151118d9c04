use Rattle.mufom_meaning.proofs.facts.LinkFactsLinked.{link_facts_agree}
use Rattle.mufom_meaning.proofs.staging_laws.link_facts_agree.Goals as goal

pub returns : goal.returns
returns c = link_facts_agree
