use Rattle.mufom_meaning.proofs.facts.AllAnswers.{answers_are_facts}
use Rattle.mufom_meaning.proofs.facts.LinkFacts.{link_facts_grow}
use Rattle.mufom_groups.proofs.GroupsAlike.{links-stand}
use Rattle.mufom_groups.proofs.laws.link_facts_stand.Goals as goal

pub returns : goal.returns
returns c = links-stand answers_are_facts link_facts_grow
