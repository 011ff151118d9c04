use Rattle.std.proofs.Common.{◌≡◌, map, take}
use Rattle.mufom_meaning.specs.Absolute.{absolute_public}
use Rattle.mufom_located.proofs.absolute_module.absolute_publics.Given as goal

abbrev pub invariant-loop-public : goal.invariant-loop-public
invariant-loop-public l = l.list ≡ map absolute_public (take l.public-index l.publics)
