use Rattle.std.proofs.Common.{◌≡◌, ◌-◌, length}
use Rattle.mufom_host.specs.World.{OnlyReads, ReadsOff}
use Rattle.mufom_members.proofs.source.read_head.Given as goal

abbrev pub invariant-loop-source : goal.invariant-loop-source
invariant-loop-source g l = record {
  read : ReadsOff (g.S.World.meaning l.initial.source).left (g.S.World.meaning l.source).left l.head.items;
  only : OnlyReads (g.S.World.meaning l.initial.source) (g.S.World.meaning l.source) (g.S.World.faults l.initial.source) (g.S.World.faults l.source);
  same : length l.buffer ≡ length l.initial.buffer;
}

abbrev pub decreases-loop-source : goal.decreases-loop-source
decreases-loop-source g l = 8 - length l.head.items
