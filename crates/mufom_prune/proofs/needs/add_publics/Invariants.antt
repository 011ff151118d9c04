use Rattle.std.proofs.Common.{◌≡◌, ◌++◌, map, take}
use Rattle.mufom_prune.specs.Kept.{mentions}
use Rattle.mufom_prune.proofs.needs.add_publics.Given as goal

abbrev pub invariant-loop-public : goal.invariant-loop-public
invariant-loop-public l = l.needs.items ≡ l.fn.needs.items ++ map (λ public. mentions l.parts public.value) (take l.public-index l.parts.names.publics)
