use Rattle.std.proofs.Common.{◌≡◌, map, take}
use Rattle.std.specs.List.{enumerate_from}
use Rattle.mufom_map.specs.Keys.{section_key}
use Rattle.mufom_map.proofs.order.section_keys.Given as goal

abbrev pub invariant-loop-number : goal.invariant-loop-number
invariant-loop-number l = l.keys.items ≡ map section_key (take l.number (enumerate_from 0 l.sections))
