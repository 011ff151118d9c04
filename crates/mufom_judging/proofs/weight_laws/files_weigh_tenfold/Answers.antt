use Rattle.mufom_judging.proofs.weighing.Files.{files_weigh}
use Rattle.mufom_judging.proofs.weight_laws.files_weigh_tenfold.Goals as goal

pub returns : goal.returns
returns c = files_weigh
