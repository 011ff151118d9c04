use Rattle.mufom_meaning.proofs.facts.LinkFacts.{link_facts_grow}
use Rattle.mufom_meaning.proofs.fact_laws.link_facts_grow.Goals as goal

pub returns : goal.returns
returns c = link_facts_grow
