use Rattle.std.proofs.Common.{◌≤◌, length, take}
use Rattle.mufom_host.specs.World.{GrowsBy}
use Rattle.mufom_host.proofs.streams.pass_on.Given as goal

abbrev pub invariant-loop-turn : goal.invariant-loop-turn
invariant-loop-turn g l = record {
  within : l.written ≤ length l.bytes;
  added : GrowsBy (g.W.Write.contents l.fn.writer) (g.W.Write.contents l.writer) (take l.written l.bytes);
}
