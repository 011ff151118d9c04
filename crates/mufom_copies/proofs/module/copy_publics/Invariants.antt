use Rattle.std.proofs.Common.{◌≡◌, take}
use Rattle.mufom_copies.proofs.module.copy_publics.Given as goal

abbrev pub invariant-loop-public : goal.invariant-loop-public
invariant-loop-public l = l.copies ≡ take l.public-index l.publics
