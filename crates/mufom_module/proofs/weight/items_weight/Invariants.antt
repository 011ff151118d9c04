use Rattle.std.proofs.Common.{◌≡◌, take, sum_by}
use Rattle.mufom_module.specs.Weights.{capped, item_weight}
use Rattle.mufom_module.proofs.weight.items_weight.Given as goal

abbrev pub invariant-loop-item : goal.invariant-loop-item
invariant-loop-item l = l.total ≡ capped (sum_by item_weight (take l.item-index l.items))
