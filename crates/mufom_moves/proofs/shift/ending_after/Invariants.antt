use Rattle.std.proofs.Common.{length}
use Rattle.mufom_moves.specs.Shifts.{AreRisingFrom, MoveAlikeFrom}
use Rattle.mufom_moves.proofs.shift.ending_after.Given as goal

abbrev pub invariant-loop-rest : goal.invariant-loop-rest
invariant-loop-rest l = record {
  alike : MoveAlikeFrom l.address l.rest l.shifts;
  rising : AreRisingFrom 0 l.rest;
}

abbrev pub decreases-loop-rest : goal.decreases-loop-rest
decreases-loop-rest l = length l.rest
