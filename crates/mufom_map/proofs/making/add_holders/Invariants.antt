use Rattle.std.proofs.Common.{◌≡◌, ◌++◌, map, take, Some}
use Rattle.mufom_map.proofs.making.add_holders.Given as goal

abbrev pub invariant-loop-copy : goal.invariant-loop-copy
invariant-loop-copy l = l.regions.items ≡ l.fn.regions.items ++ map (λ c. Some c.holder) (take l.copy-index l.copies)
