use Rattle.std.proofs.Common.{◌++◌, length, sym, ◌∙◌, ap, arith}
use Rattle.mufom_meaning.specs.AddressMap.{run_cells}
use Rattle.mufom_moves.specs.Shifts.{MoveTogether}
use Rattle.mufom_moves.proofs.PieceLaws.{moved_piece, run_cells-push}
use Rattle.mufom_moves.proofs.pieces.move_run.Goals as goal

pub returns-clause-cells : goal.returns-clause-cells
returns-clause-cells c =
    let run = c.args.run in let piece = c.longest_piece-piece.result in let moved = c.args.moved.now.items in
    let long = c.len-2.ensures in let whole = c.if-piece-len.false in
    let together : MoveTogether c.args.shifts.now run.address (length run.bytes) piece.to =
    λ k less. c.longest_piece-piece.ensures.together k (omega (arith, less, long, whole)) in
    ap run_cells c.in_ok-push.ensures.items ∙ run_cells-push moved (record { address = piece.to; bytes = run.bytes })
    ∙ ap (λ rest. run_cells moved ++ rest) (sym (moved_piece c.args.shifts.now run.bytes run.address piece.to together))
