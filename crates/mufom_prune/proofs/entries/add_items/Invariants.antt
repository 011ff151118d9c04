use Rattle.std.proofs.Common.{◌≡◌, ◌++◌, drop, flat_map}
use Rattle.mufom_prune.specs.Kept.{all_mentions, item_trees}
use Rattle.mufom_prune.proofs.entries.add_items.Given as goal

abbrev pub invariant-loop-item : goal.invariant-loop-item
invariant-loop-item l = l.all ++ all_mentions l.parts (flat_map item_trees (drop l.item-index l.items)) ≡ l.fn.all
    ++ all_mentions l.parts (flat_map item_trees l.items)
