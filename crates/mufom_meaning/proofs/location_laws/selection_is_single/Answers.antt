use Rattle.mufom_meaning.proofs.locations.SelectionSingle.{selection_is_single}
use Rattle.mufom_meaning.proofs.location_laws.selection_is_single.Goals as goal

pub returns : goal.returns
returns c = selection_is_single
