use Rattle.mufom_meaning.proofs.facts.GroupLaws.{groups_answer}
use Rattle.mufom_meaning.proofs.staging_laws.groups_answer.Goals as goal

pub returns : goal.returns
returns c = groups_answer
