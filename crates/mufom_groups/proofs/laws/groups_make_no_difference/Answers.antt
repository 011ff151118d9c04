use Rattle.mufom_meaning.proofs.facts.AllAnswers.{answers_are_facts}
use Rattle.mufom_meaning.proofs.facts.LinkFacts.{link_facts_grow}
use Rattle.mufom_groups.proofs.GroupsAlike.{groups-alike}
use Rattle.mufom_groups.proofs.laws.groups_make_no_difference.Goals as goal

pub returns : goal.returns
returns c = groups-alike answers_are_facts link_facts_grow
