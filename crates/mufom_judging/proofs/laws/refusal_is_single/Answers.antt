use Rattle.mufom_judging.proofs.judged.PrefixesOne.{refusal_is_single}
use Rattle.mufom_judging.proofs.laws.refusal_is_single.Goals as goal

pub returns : goal.returns
returns c = refusal_is_single
