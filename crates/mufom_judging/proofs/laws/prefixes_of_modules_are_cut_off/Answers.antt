use Rattle.mufom_judging.proofs.ended.Prefix.{ended_prefix}
use Rattle.mufom_judging.proofs.judged.PrefixJudged.{prefixes_are_cut_off}
use Rattle.mufom_judging.proofs.spelled.Prefix.{module_is_ended_prefix}
use Rattle.mufom_judging.proofs.spelled.Judged.{judgments_exclude_each_other}
use Rattle.mufom_judging.proofs.weighing.Files.{files_weigh}
use Rattle.mufom_judging.proofs.laws.prefixes_of_modules_are_cut_off.Goals as goal

pub returns : goal.returns
returns c = prefixes_are_cut_off (ended_prefix files_weigh) module_is_ended_prefix judgments_exclude_each_other
