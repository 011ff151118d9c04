use Rattle.mufom_headline.proofs.Linking.{linking-is-done}
use Rattle.mufom_headline.proofs.laws.linking_is_done.Goals as goal

pub returns : goal.returns
returns c = linking-is-done
