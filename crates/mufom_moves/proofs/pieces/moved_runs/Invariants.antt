use Rattle.std.proofs.Common.{length}
use Rattle.mufom_moves.proofs.RunLaws.{AreMovedSoFar}
use Rattle.mufom_moves.proofs.pieces.moved_runs.Given as goal

abbrev pub invariant-loop-run : goal.invariant-loop-run
invariant-loop-run l = AreMovedSoFar l.fn.runs l.shifts l.rest l.moved.items (length l.yielded)
