use Rattle.mufom_outcome.proofs.TopicLaws.{commands-have-texts}
use Rattle.mufom_outcome.proofs.laws.commands_have_texts.Goals as goal

pub returns : goal.returns
returns c = commands-have-texts
