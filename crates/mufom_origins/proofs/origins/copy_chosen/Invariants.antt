use Rattle.std.proofs.Common.{◌≡◌, ◌++◌, take}
use Rattle.mufom_origins.specs.Places.{at_positions}
use Rattle.mufom_origins.proofs.origins.copy_chosen.Given as goal

abbrev pub invariant-loop-position : goal.invariant-loop-position
invariant-loop-position l = l.copies.items ≡ l.fn.copies.items ++ at_positions l.modules (take l.position-index l.chosen)
