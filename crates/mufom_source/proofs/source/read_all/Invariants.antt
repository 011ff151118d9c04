use Rattle.std.proofs.Common.{◌-◌}
use Rattle.mufom_read.specs.Reader.{options_of}
use Rattle.mufom_source.proofs.Feeding.{HasCome}
use Rattle.mufom_source.proofs.source.read_all.Given as goal

abbrev pub invariant-loop-count : goal.invariant-loop-count
invariant-loop-count g l = HasCome l.limit l.length (options_of l.initial.reader) l.reader (g.S.World.meaning l.initial.source)
    (g.S.World.meaning l.source) (g.S.World.faults l.initial.source) (g.S.World.faults l.source)

abbrev pub decreases-loop-count : goal.decreases-loop-count
decreases-loop-count g l = l.limit - l.length
