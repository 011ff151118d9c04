use Rattle.mufom_help.proofs.Computed.{own-names}
use Rattle.mufom_help.proofs.laws.topics_have_own_names.Goals as goal

pub returns : goal.returns
returns c = own-names
