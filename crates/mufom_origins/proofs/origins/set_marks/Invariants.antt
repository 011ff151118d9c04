use Rattle.std.proofs.Common.{◌≡◌, take}
use Rattle.mufom_origins.specs.Places.{set_marks}
use Rattle.mufom_origins.proofs.origins.set_marks.Given as goal

abbrev pub invariant-loop-mark : goal.invariant-loop-mark
invariant-loop-mark l = l.count ≡ set_marks (take l.mark-index l.marks)
