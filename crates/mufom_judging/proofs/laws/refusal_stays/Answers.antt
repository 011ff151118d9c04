use Rattle.mufom_judging.proofs.judged.Stays.{refusal_stays}
use Rattle.mufom_judging.proofs.laws.refusal_stays.Goals as goal

pub returns : goal.returns
returns c = refusal_stays
