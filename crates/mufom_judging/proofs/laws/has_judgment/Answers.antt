use Rattle.mufom_judging.proofs.ended.Prefix.{ended_prefix}
use Rattle.mufom_judging.proofs.judged.PrefixJudged.{has_judgment}
use Rattle.mufom_judging.proofs.weighing.Files.{files_weigh}
use Rattle.mufom_judging.proofs.laws.has_judgment.Goals as goal

pub returns : goal.returns
returns c = has_judgment (ended_prefix files_weigh)
