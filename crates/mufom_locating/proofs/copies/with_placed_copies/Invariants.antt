use Rattle.std.proofs.Common.{◌≡◌, ◌++◌, take}
use Rattle.mufom_locating.specs.Copied.{placed_copies}
use Rattle.mufom_locating.proofs.copies.with_placed_copies.Given as goal

abbrev pub invariant-loop-place : goal.invariant-loop-place
invariant-loop-place l = l.all ≡ l.initial.all ++ placed_copies (take l.place l.copies) (take l.place l.bases)
