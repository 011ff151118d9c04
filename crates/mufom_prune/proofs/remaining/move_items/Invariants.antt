use Rattle.std.proofs.Common.{◌≡◌, map, take}
use Rattle.mufom_prune.specs.Pruned.{new_item}
use Rattle.mufom_prune.proofs.remaining.move_items.Given as goal

abbrev pub invariant-loop-item : goal.invariant-loop-item
invariant-loop-item l = l.moved ≡ map (new_item l.positions) (take l.item-index l.items)
