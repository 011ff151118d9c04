use Rattle.std.proofs.Common.{◌≡◌, ◌-◌, ◌^◌, min, length, take}
use Rattle.mufom_meaning.specs.Flat.{public_names}
use Rattle.mufom_select.proofs.providers.public_count.Given as goal

abbrev pub invariant-loop-module : goal.invariant-loop-module
invariant-loop-module l = l.count ≡ min (length (public_names (take l.module-index l.modules))) (2 ^ 64 - 1)
