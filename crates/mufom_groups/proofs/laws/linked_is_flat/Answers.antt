use Rattle.mufom_meaning.proofs.facts.AllAnswers.{answers_are_facts}
use Rattle.mufom_meaning.proofs.facts.LinkFacts.{link_facts_grow}
use Rattle.mufom_groups.proofs.GroupsAlike.{linked-flat}
use Rattle.mufom_groups.proofs.laws.linked_is_flat.Goals as goal

pub returns : goal.returns
returns c = linked-flat answers_are_facts link_facts_grow
