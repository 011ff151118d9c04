use Rattle.std.proofs.Common.{◌≡◌, take}
use Rattle.mufom_debug.specs.Marks.{marks_of}
use Rattle.mufom_module.specs.Weights.{capped}
use Rattle.mufom_works.specs.Text.{item_count}
use Rattle.mufom_works.proofs.lines.+counting.Given as goal

abbrev pub invariant-items_total-loop-item : goal.invariant-items_total-loop-item
invariant-items_total-loop-item l = l.total ≡ capped (item_count (marks_of (take l.item-index l.items)))
