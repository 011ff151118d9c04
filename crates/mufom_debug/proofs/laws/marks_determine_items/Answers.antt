use Rattle.mufom_debug.proofs.Rebuilt.{same_items}
use Rattle.mufom_debug.proofs.laws.marks_determine_items.Goals as goal

pub returns : goal.returns
returns c = same_items
