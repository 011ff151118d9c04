use Rattle.mufom_judging.proofs.judged.Stays.{prefixes_stay}
use Rattle.mufom_judging.proofs.laws.prefixes_stay.Goals as goal

pub returns : goal.returns
returns c = prefixes_stay
