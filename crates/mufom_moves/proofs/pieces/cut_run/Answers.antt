use Rattle.std.proofs.Common.{◌≡◌, ◌≤◌, ◌+◌, ◌-◌, ◌++◌, take, drop, length, sym, ◌∙◌, ap, subst, arith}
use Rattle.std.specs.List.{All}
use Rattle.std.proofs.lemmas.List.Elements.{All-push}
use Rattle.mufom_meaning.specs.declared.located.Run.{Run}
use Rattle.mufom_meaning.specs.AddressMap.{cells_from, run_cells}
use Rattle.mufom_moves.specs.Shifts.{MoveAlikeFrom}
use Rattle.mufom_moves.specs.Joined.{HasBytes}
use Rattle.mufom_moves.proofs.PieceLaws.{piece_more, piece_length, run_cells-push, together_alike, alike-later}
use Rattle.mufom_moves.proofs.pieces.cut_run.Goals as goal

pub loop-done-preserved : goal.loop-done-preserved
loop-done-preserved c =
    let run = c.args.run.now in let shifts = c.args.shifts.now in let done = c.loop-done.done in let h = c.loop-done.invariant in
    let rest = c.ending_after-rest.result.now in let piece = c.longest_piece-piece.result in let moved = c.loop-done.moved.items in
    let long = ap length c.as_slice-bytes.ensures in
    let most = c.longest_piece-piece.ensures.most in
    let some = c.longest_piece-piece.ensures.some in
    let before = h.within in
    let less : done + piece.count ≤ length run.bytes = omega (arith, long, most, before) in
    let alike : MoveAlikeFrom (run.address + done) rest shifts = λ a from. c.ending_after-rest.ensures.alike a from ∙ h.alike a from in
    let size : done + piece.count - done ≡ piece.count = omega arith in
    let bytes : c.in_ok-from_slice.field-0 ≡ take piece.count (drop done run.bytes) = c.in_ok-from_slice.ensures
    ∙ (λ i. take (size i) (drop done (c.as_slice-bytes.ensures i))) in
    let count : length c.in_ok-from_slice.field-0 ≡ piece.count = ap length bytes ∙ piece_length done piece.count run.bytes less in
    let last : Run = record { address = piece.to; bytes = c.in_ok-from_slice.field-0 } in
    record {
      within = less;
      rising = c.ending_after-rest.ensures.rising;
      alike = alike-later (run.address + done) (run.address + (done + piece.count)) rest shifts (omega arith) alike;
      filled = subst (λ runs. All HasBytes runs) (sym c.in_ok-push.ensures.items) (All-push HasBytes moved last h.filled (omega (arith, some, count)));
      cells = piece_more shifts run.address run.bytes done piece.count piece.to (run_cells c.args.moved.now.items) (run_cells moved)
          (run_cells c.push.new.self.items) less
          (together_alike rest shifts (run.address + done) piece.count piece.to alike c.longest_piece-piece.ensures.together)
          h.cells
          (ap run_cells c.in_ok-push.ensures.items ∙ run_cells-push moved last ∙ ap (λ own. run_cells moved ++ cells_from piece.to own) bytes);
    }
