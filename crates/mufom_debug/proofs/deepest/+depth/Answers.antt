use denote.Param.Weighed.{most, at_most}
use Rattle.std.proofs.Common.{◌≡◌, ◌≤◌, max, ap, ◌∙◌, rules, arith}
use Rattle.mufom_debug.specs.declared.item.Block.{Block}
use Rattle.mufom_debug.specs.declared.item.DebugItem.{DebugItem, the_lemmas}
use Rattle.mufom_debug.specs.Marks.{marks_of, marks_of_item, depth_of}
use Rattle.mufom_debug.proofs.item.DebugItem.TheLaws.{the_size}
use Rattle.mufom_debug.proofs.Balance.{depth_of-Block, depth_of_more, item-within}
use Rattle.mufom_debug.proofs.deepest.+depth.Goals as goal

pub item_depth-depth-requires : goal.item_depth-depth-requires
item_depth-depth-requires t c =
    let inner = depth_of-Block c.in-Block.block in
    let whole = ap (λ (item : DebugItem). depth_of (marks_of_item item)) c.in-Block.is in
    let own = ap (λ items. depth_of (marks_of items)) (c.as_slice.ensures ∙ ap (λ (block : Block). block.items) c.get.ensures) in
    (search (rules, the_lemmas), omega (arith, inner, whole, own, c.requires))

pub item_depth-returns-in-Block : goal.item_depth-returns-in-Block
item_depth-returns-in-Block t c =
    let inner = depth_of-Block c.in-Block.block in
    let whole = ap (λ (item : DebugItem). depth_of (marks_of_item item)) c.in-Block.is in
    let own = ap (λ items. depth_of (marks_of items)) (c.as_slice.ensures ∙ ap (λ (block : Block). block.items) c.get.ensures) in
    omega (arith, inner, whole, own, c.depth.ensures)

pub depth-item_depth-requires : goal.depth-item_depth-requires
depth-item_depth-requires t c =
    let its : depth_of (marks_of_item c.item-item.result) ≤ depth_of (marks_of c.args.items.now) =
    rw c.item-item.is (item-within c.args.items.now c.loop-item.item-index c.item-item.result c.loop-item-test.true) in
    let small : the_size c.item-item.result ≤ most the_size c.args.items.now =
    rw c.item-item.is (at_most the_size c.args.items.now c.loop-item.item-index c.item-item.result c.loop-item-test.true) in
    (search (rules, small), omega (arith, its, c.requires))

pub depth-loop-item-preserved : goal.depth-loop-item-preserved
depth-loop-item-preserved t c =
    let deeper : c.max-deepest.result ≡ max c.loop-item.deepest c.item_depth.result = search rules in
    let more = depth_of_more c.args.items.now c.loop-item.item-index c.item-item.result c.loop-item-test.true in
    let its = ap (λ (item : DebugItem). depth_of (marks_of_item item)) c.item-item.is in
    omega (arith, deeper, more, its, c.item_depth.ensures, c.loop-item.invariant)

pub item_depth-overflow_add-result : goal.item_depth-overflow_add-result
item_depth-overflow_add-result t c =
    let inner = depth_of-Block c.in-Block.block in
    let whole = ap (λ (item : DebugItem). depth_of (marks_of_item item)) c.in-Block.is in
    let own = ap (λ items. depth_of (marks_of items)) (c.as_slice.ensures ∙ ap (λ (block : Block). block.items) c.get.ensures) in
    omega (arith, inner, whole, own, c.requires, c.depth.ensures)
