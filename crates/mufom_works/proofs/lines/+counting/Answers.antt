use Rattle.std.proofs.Common.{ap, arith}
use Rattle.mufom_debug.specs.declared.item.DebugItem.{DebugItem}
use Rattle.mufom_debug.specs.Marks.{marks_of_item}
use Rattle.mufom_works.specs.Text.{item_count}
use Rattle.mufom_works.proofs.LineLaws.{item_count-more}
use Rattle.mufom_works.proofs.lines.+counting.Goals as goal

pub items_total-loop-item-preserved : goal.items_total-loop-item-preserved
items_total-loop-item-preserved t c =
    let items = c.args.items.now in
    let i = c.loop-item.item-index in
    let more = item_count-more items i c.item-item.result c.loop-item-test.true in
    let its = ap (λ (x : DebugItem). item_count (marks_of_item x)) c.item-item.is in
    omega (arith, more, its, c.item_total.ensures, c.saturating_add-total.ensures, c.loop-item.invariant)
