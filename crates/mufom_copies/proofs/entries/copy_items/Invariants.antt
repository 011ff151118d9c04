use Rattle.std.proofs.Common.{◌≡◌, take}
use Rattle.mufom_copies.proofs.entries.copy_items.Given as goal

abbrev pub invariant-loop-item : goal.invariant-loop-item
invariant-loop-item l = l.copies ≡ take l.item-index l.items
