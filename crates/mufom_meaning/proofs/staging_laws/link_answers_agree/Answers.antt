use Rattle.mufom_meaning.proofs.facts.LinkAgreed.{link_answers_agree}
use Rattle.mufom_meaning.proofs.staging_laws.link_answers_agree.Goals as goal

pub returns : goal.returns
returns c = link_answers_agree
