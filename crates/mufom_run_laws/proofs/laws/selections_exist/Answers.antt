use Rattle.mufom_run_laws.proofs.Selections.{selections-exist}
use Rattle.mufom_run_laws.proofs.laws.selections_exist.Goals as goal

pub returns : goal.returns
returns c = selections-exist
