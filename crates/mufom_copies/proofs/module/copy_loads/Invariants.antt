use Rattle.std.proofs.Common.{◌≡◌, take}
use Rattle.mufom_copies.proofs.module.copy_loads.Given as goal

abbrev pub invariant-loop-load : goal.invariant-loop-load
invariant-loop-load l = l.copies ≡ take l.load-index l.loads
