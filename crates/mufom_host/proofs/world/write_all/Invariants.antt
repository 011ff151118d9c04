use Rattle.std.proofs.Common.{◌≤◌, ◌-◌, length, take}
use Rattle.mufom_host.specs.Spans.{AfterWrites}
use Rattle.mufom_host.proofs.world.write_all.Given as goal

abbrev pub invariant-loop-written : goal.invariant-loop-written
invariant-loop-written g l =
    (l.written ≤ length l.bytes)
    × AfterWrites (g.S.World.meaning l.fn.sink) (g.S.World.meaning l.sink) (g.S.World.faults l.fn.sink) (g.S.World.faults l.sink) (take l.written l.bytes)

abbrev pub decreases-loop-written : goal.decreases-loop-written
decreases-loop-written g l = length l.bytes - l.written
