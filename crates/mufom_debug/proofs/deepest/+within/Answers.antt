use Rattle.std.proofs.Common.{◌≤◌, ◌-◌, ap, ◌∙◌, sym, refl, true≢false, arith}
use Rattle.mufom_debug.specs.declared.item.Block.{Block}
use Rattle.mufom_debug.specs.declared.item.DebugItem.{DebugItem}
use Rattle.mufom_debug.specs.Marks.{marks_of, marks_of_item, depth_of}
use Rattle.mufom_debug.proofs.Balance.{depth_of-Block, depth_of_more, item-within}
use Rattle.mufom_debug.proofs.deepest.+within.Goals as goal

pub is_within_depth-returns-then-not-item_is_within :
    goal.is_within_depth-returns-then-not-item_is_within
is_within_depth-returns-then-not-item_is_within t c =
    let its : depth_of (marks_of_item c.item-item.result) ≤ depth_of (marks_of c.args.items.now) =
    rw c.item-item.is (item-within c.args.items.now c.loop-item.item-index c.item-item.result c.loop-item-test.true) in
    (λ yes. absurd (true≢false (sym yes)), λ h. c.if-not-item_is_within.ensures.1 (omega (arith, its, h)))

pub is_within_depth-loop-item-preserved : goal.is_within_depth-loop-item-preserved
is_within_depth-loop-item-preserved t c =
    let more = depth_of_more c.args.items.now c.loop-item.item-index c.item-item.result c.loop-item-test.true in
    let its = ap (λ (item : DebugItem). depth_of (marks_of_item item)) c.item-item.is in
    let own : depth_of (marks_of_item c.item-item.result) ≤ c.args.limit = c.if-not-item_is_within.ensures.0 refl in
    omega (arith, more, its, own, c.loop-item.invariant)

pub item_is_within-returns-in-Block : goal.item_is_within-returns-in-Block
item_is_within-returns-in-Block t c =
    let inner = depth_of-Block c.in-Block.field-0 in
    let whole = ap (λ (item : DebugItem). depth_of (marks_of_item item)) c.in-Block.is in
    (λ yes. absurd (true≢false (sym yes)), λ h. absurd (omega (arith, inner, whole, h, c.if-limit-eq0.true)))

pub item_is_within-returns-in-Block-2 : goal.item_is_within-returns-in-Block-2
item_is_within-returns-in-Block-2 t c =
    let inner = depth_of-Block c.in-Block-2.block in
    let whole = ap (λ (item : DebugItem). depth_of (marks_of_item item)) c.in-Block-2.is in
    let own = ap (λ items. depth_of (marks_of items)) (c.as_slice.ensures ∙ ap (λ (block : Block). block.items) c.get.ensures) in (
      λ yes. let deep : depth_of (marks_of c.as_slice.result.now) ≤ c.args.limit - 1 = c.is_within_depth.ensures.0 yes in
          omega (arith, inner, whole, own, deep, c.if-limit-eq0.false),
      λ h. c.is_within_depth.ensures.1 (omega (arith, inner, whole, own, h, c.if-limit-eq0.false)),
    )
