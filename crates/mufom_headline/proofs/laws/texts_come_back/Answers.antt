use Rattle.mufom_headline.proofs.Texts.{texts-come-back}
use Rattle.mufom_headline.proofs.laws.texts_come_back.Goals as goal

pub returns : goal.returns
returns c = texts-come-back
