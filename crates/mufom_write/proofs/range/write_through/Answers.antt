use Rattle.mufom_write.specs.HoldingChains.{Holds-through}
use Rattle.mufom_write.proofs.range.write_through.Goals as goal

pub returns-clause-writes : goal.returns-clause-writes
returns-clause-writes g c = Holds-through _ _ _ _ _ _ _ _ _ _ _ c.requires.empty c.in_ok-put_range.ensures.1 c.flush.ensures.holds c.flush.ensures.empty
