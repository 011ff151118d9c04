use Rattle.std.proofs.Common.{◌+◌, ◌-◌, ◌<◌, ◌≤◌}
use Rattle.mufom_moves.specs.Shifts.{AreRisingFrom, MoveAlikeFrom, MoveTogether}
use Rattle.mufom_moves.proofs.pieces.longest_piece.Given as goal

abbrev pub invariant-loop-piece : goal.invariant-loop-piece
invariant-loop-piece l = record {
  some : 0 < l.piece.count;
  most : l.piece.count ≤ l.most;
  rising : AreRisingFrom 0 l.rest;
  alike : MoveAlikeFrom (l.address + l.piece.count) l.rest l.shifts;
  together : MoveTogether l.shifts l.address l.piece.count l.piece.to;
}

abbrev pub decreases-loop-piece : goal.decreases-loop-piece
decreases-loop-piece l = l.most - l.piece.count
