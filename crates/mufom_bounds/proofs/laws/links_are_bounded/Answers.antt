use Rattle.mufom_bounds.proofs.BoundedLinks.{joined-bounded}
use Rattle.mufom_bounds.proofs.laws.links_are_bounded.Goals as goal

pub returns : goal.returns
returns c = joined-bounded
