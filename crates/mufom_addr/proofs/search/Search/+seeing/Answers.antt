use denote.Param.Weighed.{most, at_most}
use Rattle.std.proofs.Common.{◌≤◌, List, ℕ, option_map, sym, ap, ◌∙◌, rules, arith, Bor}
use Rattle.mufom_debug.specs.declared.item.Block.{Block}
use Rattle.mufom_debug.specs.declared.item.DebugItem.{DebugItem, Block as block_case, the_lemmas}
use Rattle.mufom_debug.specs.Marks.{depth_of, marks_of, marks_of_item}
use Rattle.mufom_debug.proofs.item.DebugItem.TheLaws.{the_size}
use Rattle.mufom_debug.proofs.Balance.{depth_of-Block, item-within}
use Rattle.mufom_addr.proofs.ItemLaws.{around_at, on_ok, sees-Block, sees-all, sees-item}
use Rattle.mufom_addr.proofs.SearchLaws.{sees-none}
use Rattle.mufom_addr.proofs.search.Search.+seeing.Goals as goal

pub see_item-see_items-requires : goal.see_item-see_items-requires
see_item-see_items-requires t c =
    let inner = depth_of-Block c.in-Block.block in
    let whole = ap (λ (item : DebugItem). depth_of (marks_of_item item)) c.in-Block.is in
    let own = ap (λ items. depth_of (marks_of items)) (c.as_slice.ensures ∙ ap (λ (block : Block). block.items) c.get-block.ensures) in
    (search (rules, the_lemmas), omega (arith, inner, whole, own, c.requires))

pub see_item-returns-in-Block : goal.see_item-returns-in-Block
see_item-returns-in-Block t c =
    on_ok c.see_items.result
    (sees-Block c.args.item.now c.get-block.result.now c.args.depth (option_map (λ (s : Bor (List ℕ)). s.now) c.args.source)
    (option_map (λ (s : Bor (List ℕ)). s.now) c.source_within-source.result) c.as_slice.result.now c.args.self.now c.see_block.new.self c.see_items.new.self
    (c.in-Block.is ∙ ap (λ (block : Block). block_case block) (sym c.get-block.ensures)) c.as_slice.ensures c.source_within-source.ensures c.see_block.ensures)
    c.see_items.ensures

pub see_items-loop-item-init : goal.see_items-loop-item-init
see_items-loop-item-init t c = sees-none c.args.self.now

pub see_items-see_item-requires : goal.see_items-see_item-requires
see_items-see_item-requires t c =
    let its : depth_of (marks_of_item c.item-item.result) ≤ depth_of (marks_of c.args.items.now) =
    rw c.item-item.is (item-within c.args.items.now c.loop-item.item-index c.item-item.result c.loop-item-test.true) in
    let small : the_size c.item-item.result ≤ most the_size c.args.items.now =
    rw c.item-item.is (at_most the_size c.args.items.now c.loop-item.item-index c.item-item.result c.loop-item-test.true) in
    (search (rules, small), omega (arith, its, c.requires))

pub see_items-loop-item-preserved : goal.see_items-loop-item-preserved
see_items-loop-item-preserved t c =
    sees-item c.args.items.now (around_at c.args.depth (option_map (λ (s : Bor (List ℕ)). s.now) c.args.source)) c.loop-item.item-index c.item-item.result
    c.args.self.now c.loop-item.self c.see_item.new.self c.loop-item-test.true c.item-item.is c.loop-item.invariant c.in_ok-see_item.ensures

pub see_items-returns : goal.see_items-returns
see_items-returns t c =
    sees-all c.args.items.now (around_at c.args.depth (option_map (λ (s : Bor (List ℕ)). s.now) c.args.source)) c.loop-item.item-index
    c.args.self.now c.loop-item.self c.loop-item-test.false c.loop-item.invariant
