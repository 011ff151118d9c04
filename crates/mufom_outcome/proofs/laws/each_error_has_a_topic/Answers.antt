use Rattle.mufom_outcome.proofs.TopicLaws.{each-error}
use Rattle.mufom_outcome.proofs.laws.each_error_has_a_topic.Goals as goal

pub returns : goal.returns
returns c = each-error
