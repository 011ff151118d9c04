use Rattle.mufom_judging.proofs.ended.Prefix.{ended_prefix}
use Rattle.mufom_judging.proofs.weighing.Files.{files_weigh}
use Rattle.mufom_judging.proofs.laws.ended_prefix_is_module.Goals as goal

pub returns : goal.returns
returns c = ended_prefix files_weigh
