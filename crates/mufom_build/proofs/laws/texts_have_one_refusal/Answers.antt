use Rattle.mufom_build.proofs.OneRefusal.{one_refusal}
use Rattle.mufom_build.proofs.laws.texts_have_one_refusal.Goals as goal

pub returns : goal.returns
returns c = one_refusal
