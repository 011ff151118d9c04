use Rattle.mufom_titxt.proofs.AcceptLaws.{accepted_is_map}
use Rattle.mufom_titxt.proofs.laws.accepted_texts_are_texts.Goals as goal

pub returns : goal.returns
returns c text width e = accepted_is_map text width e
