use Rattle.std.proofs.Common.{replicate}
use Rattle.mufom_write.specs.Writing.{LeadsTo}
use Rattle.mufom_write.proofs.raw.gap.Given as goal

abbrev pub invariant-loop-left : goal.invariant-loop-left
invariant-loop-left g l = LeadsTo g.K.Output.takes l.fn.out l.out (replicate l.left l.fill) (replicate l.count l.fill)

abbrev pub decreases-loop-left : goal.decreases-loop-left
decreases-loop-left g l = l.left
