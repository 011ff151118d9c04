use Rattle.std.proofs.Common.{◌≡◌, ◌-◌, length}
use Rattle.mufom_host.specs.World.{OnlyReads}
use Rattle.mufom_members.proofs.Sourcing.{HasCome}
use Rattle.mufom_members.proofs.source.read_rest.Given as goal

abbrev pub invariant-chunks : goal.invariant-chunks
invariant-chunks g l = record {
  come : HasCome l.head l.limit l.size l.initial.content l.content (g.S.World.meaning l.initial.source).left (g.S.World.meaning l.source).left;
  only : OnlyReads (g.S.World.meaning l.initial.source) (g.S.World.meaning l.source) (g.S.World.faults l.initial.source) (g.S.World.faults l.source);
  same : length l.buffer ≡ length l.initial.buffer;
}

abbrev pub decreases-chunks : goal.decreases-chunks
decreases-chunks g l = l.limit - l.size
