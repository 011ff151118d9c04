use Rattle.std.proofs.Common.{◌≡◌, ◌+◌, ◌==◌, ◌++◌, ℕ, List, true, drop}
use Rattle.mufom_text.specs.Image.{row_text}
use Rattle.mufom_text.proofs.image.row.Given as goal

-- a text was put that with the text of the rest is that of the row
abbrev pub invariant-loop-i : goal.invariant-loop-i
invariant-loop-i g l = (done : List ℕ) × g.K.Output.takes l.fn.out l.out done
    × (row_text l.maus true l.at l.bytes ≡ done ++ row_text l.maus (l.i == 0) (l.at + l.i) (drop l.i l.bytes))
