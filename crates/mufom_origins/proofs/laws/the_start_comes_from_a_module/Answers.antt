use Rattle.mufom_origins.proofs.FlatLaws.{first-start}
use Rattle.mufom_origins.proofs.laws.the_start_comes_from_a_module.Goals as goal

pub returns : goal.returns
returns c files = first-start files
