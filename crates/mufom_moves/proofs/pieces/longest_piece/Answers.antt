use Rattle.std.proofs.Common.{◌+◌, ◌∙◌, arith}
use Rattle.mufom_moves.specs.Shifts.{MoveAlikeFrom}
use Rattle.mufom_moves.proofs.PieceLaws.{together_alike, together_on, alike-later}
use Rattle.mufom_moves.proofs.pieces.longest_piece.Goals as goal

pub loop-piece-preserved : goal.loop-piece-preserved
loop-piece-preserved c =
    let h = c.loop-piece.invariant in let piece = c.loop-piece.piece in let more = c.next_piece-more.result in
    let shifts = c.args.shifts.now in let rest = c.ending_after-rest-in-loop-piece.result.now in let next = c.args.address + piece.count in
    let some = h.some in let left = c.loop-piece-test.true in let most = c.next_piece-more.ensures.most in let far = c.if-more-piece.false in
    let alike : MoveAlikeFrom next rest shifts = λ a from. c.ending_after-rest-in-loop-piece.ensures.alike a from ∙ h.alike a from in
    record {
      some = omega (arith, some);
      most = omega (arith, left, most);
      rising = c.ending_after-rest-in-loop-piece.ensures.rising;
      alike = alike-later next (c.args.address + (piece.count + more.count)) rest shifts (omega arith) alike;
      together = together_on shifts c.args.address piece.count more.count piece.to more.to h.together
          (together_alike rest shifts next more.count more.to alike c.next_piece-more.ensures.together) (omega (arith, far));
    }
