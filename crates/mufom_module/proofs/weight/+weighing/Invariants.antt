use Rattle.std.proofs.Common.{◌≡◌, take}
use Rattle.mufom_debug.specs.Marks.{marks_of}
use Rattle.mufom_module.specs.Weights.{capped, marks_weight}
use Rattle.mufom_module.proofs.weight.+weighing.Given as goal

abbrev pub invariant-debug_items_weight-loop-item : goal.invariant-debug_items_weight-loop-item
invariant-debug_items_weight-loop-item l = l.total ≡ capped (marks_weight (marks_of (take l.item-index l.items)))
