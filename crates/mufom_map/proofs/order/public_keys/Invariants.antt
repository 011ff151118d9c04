use Rattle.std.proofs.Common.{◌≡◌, map, take}
use Rattle.std.specs.List.{enumerate_from}
use Rattle.mufom_map.specs.Keys.{public_key}
use Rattle.mufom_map.proofs.order.public_keys.Given as goal

abbrev pub invariant-loop-position : goal.invariant-loop-position
invariant-loop-position l = l.keys.items ≡ map public_key (take l.position (enumerate_from 0 l.publics))
