use Rattle.mufom_judging.proofs.judged.PrefixesOne.{prefixes_are_one}
use Rattle.mufom_judging.proofs.laws.prefixes_are_one.Goals as goal

pub returns : goal.returns
returns c = prefixes_are_one
