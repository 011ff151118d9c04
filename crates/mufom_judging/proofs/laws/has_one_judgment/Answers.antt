use Rattle.mufom_judging.proofs.judged.PrefixJudged.{has_one_judgment}
use Rattle.mufom_judging.proofs.spelled.Judged.{judgments_exclude_each_other}
use Rattle.mufom_judging.proofs.laws.has_one_judgment.Goals as goal

pub returns : goal.returns
returns c = has_one_judgment judgments_exclude_each_other
