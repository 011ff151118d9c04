use Rattle.mufom_judging.proofs.spelled.Judged.{judgments_exclude_each_other}
use Rattle.mufom_judging.proofs.laws.judgments_exclude_each_other.Goals as goal

pub returns : goal.returns
returns c = judgments_exclude_each_other
