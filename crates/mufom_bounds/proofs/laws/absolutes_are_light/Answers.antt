use Rattle.mufom_bounds.proofs.AbsoluteBounded.{absolute-light}
use Rattle.mufom_bounds.proofs.laws.absolutes_are_light.Goals as goal

pub returns : goal.returns
returns c = absolute-light
