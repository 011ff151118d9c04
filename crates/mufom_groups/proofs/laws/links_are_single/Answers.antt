use Rattle.mufom_groups.proofs.Singles.{linked_module-single}
use Rattle.mufom_groups.proofs.laws.links_are_single.Goals as goal

pub returns : goal.returns
returns c = linked_module-single
