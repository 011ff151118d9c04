use Rattle.std.proofs.Common.{arith}
use Rattle.mufom_moves.proofs.PieceLaws.{before_first}
use Rattle.mufom_moves.proofs.pieces.next_piece.Goals as goal

pub returns-in-len1-up-2-clause-together : goal.returns-in-len1-up-2-clause-together
returns-in-len1-up-2-clause-together c =
    let later = c.if-shift-address.false in let least = c.min-in-len1-up-2.ensures in
    before_first c.args.shifts.now c.args.address c.min-in-len1-up-2.result (record { from = 0; size = 0; to = 0 }) c.in-len1-up.len_at_least c.requires.rising
    (omega (arith, later, least))
