use Rattle.std.proofs.Common.{arith}
use Rattle.mufom_read.proofs.prefix.Prefix.add.Goals as goal

pub take-requires-clause-start : goal.take-requires-clause-start
take-requires-clause-start c = omega (arith, c.requires.start, c.requires.fits)
