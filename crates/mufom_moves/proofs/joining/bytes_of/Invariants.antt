use Rattle.std.proofs.Common.{◌≡◌, take}
use Rattle.mufom_moves.specs.Joined.{bytes_of}
use Rattle.mufom_moves.proofs.joining.bytes_of.Given as goal

abbrev pub invariant-loop-run : goal.invariant-loop-run
invariant-loop-run l = l.all.items ≡ bytes_of (take l.run-index l.runs)
