use Rattle.std.proofs.Common.{◌≡◌, take}
use Rattle.mufom_origins.proofs.origins.copy_first.Given as goal

abbrev pub invariant-loop-origin : goal.invariant-loop-origin
invariant-loop-origin l = l.copies.items ≡ take l.origin-index l.origin-items
