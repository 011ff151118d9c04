use Rattle.std.proofs.Common.{◌≡◌, ◌+◌, take, get_or, ap, ◌∙◌, arith}
use Rattle.std.proofs.lemmas.List.Sums.{sum_by-append}
use Rattle.mufom_debug.specs.declared.item.DebugItem.{DebugItem}
use Rattle.mufom_debug.specs.Marks.{marks_of, marks_of_item}
use Rattle.mufom_debug.proofs.MarksLemmas.{marks_of_more}
use Rattle.mufom_module.specs.Weights.{mark_weight, marks_weight}
use Rattle.mufom_module.proofs.weight.+weighing.Goals as goal

pub debug_items_weight-loop-item-preserved : goal.debug_items_weight-loop-item-preserved
debug_items_weight-loop-item-preserved t c =
    let items = c.args.items.now in
    let i = c.loop-item.item-index in
    let item = c.item-item.result in
    let more : marks_weight (marks_of (take (i + 1) items)) ≡ marks_weight (marks_of (take i items)) + marks_weight (marks_of_item (get_or items i item)) =
    ap marks_weight (marks_of_more items i item c.loop-item-test.true)
    ∙ sum_by-append mark_weight (marks_of (take i items)) (marks_of_item (get_or items i item)) in
    let its = ap (λ (x : DebugItem). marks_weight (marks_of_item x)) c.item-item.is in
    omega (arith, more, its, c.debug_item_weight.ensures, c.saturating_add-total.ensures, c.loop-item.invariant)
