use Rattle.mufom_bounds.proofs.AbsoluteBounded.{absolute-bounded}
use Rattle.mufom_bounds.proofs.laws.absolutes_are_bounded.Goals as goal

pub returns : goal.returns
returns c = absolute-bounded
