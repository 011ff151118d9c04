use Rattle.mufom_run_laws.proofs.Selections.{flat-lists-exist}
use Rattle.mufom_run_laws.proofs.laws.flat_lists_exist.Goals as goal

pub returns : goal.returns
returns c = flat-lists-exist
