use Rattle.mufom_judging.proofs.weighing.Files.{modules_weigh}
use Rattle.mufom_judging.proofs.weight_laws.modules_weigh_tenfold.Goals as goal

pub returns : goal.returns
returns c = modules_weigh
