use Rattle.std.proofs.Common.{◌≡◌, take}
use Rattle.mufom_loads.specs.Lengths.{lengths_of}
use Rattle.mufom_loads.proofs.length.items_length.Given as goal

abbrev pub invariant-loop-item : goal.invariant-loop-item
invariant-loop-item l = l.total ≡ lengths_of (take l.item-index l.items)
