use Rattle.std.proofs.Common.{◌+◌, ◌-◌, vec_len}
use Rattle.mufom_host.specs.Spans.{AfterReads}
use Rattle.mufom_task.proofs.whole_file.read_bytes.Given as goal

abbrev pub invariant-loop-source : goal.invariant-loop-source
invariant-loop-source g l = AfterReads (g.S.World.meaning l.initial.source) (g.S.World.meaning l.source) (g.S.World.faults l.initial.source)
    (g.S.World.faults l.source) l.bytes.items

abbrev pub decreases-loop-source : goal.decreases-loop-source
decreases-loop-source g l = l.limit + 1 - vec_len l.bytes
