use Rattle.std.proofs.Common.{ℕ, List, take, get_or, subst, sym, ap, ◌∙◌}
use Rattle.std.specs.Prelude.{All}
use Rattle.std.proofs.lemmas.List.{take_all}
use Rattle.std.proofs.lemmas.List.Elements.{All-append}
use Rattle.mufom_debug.specs.declared.item.Block.{Block}
use Rattle.mufom_debug.specs.declared.item.DebugItem.{DebugItem, Block as block_case}
use Rattle.mufom_debug.specs.Marks.{block_begin, marks_of, marks_of_item}
use Rattle.mufom_debug.proofs.MarksLemmas.{marks_of_more}
use Rattle.mufom_module.specs.Made.{IsMadeMark}
use Rattle.mufom_module.proofs.MadeLemmas.{all-block}
use Rattle.mufom_module.proofs.made.+making.Goals as goal

pub debug_items-loop-item-preserved : goal.debug_items-loop-item-preserved
debug_items-loop-item-preserved t c =
    let items = c.args.items.now in
    let i = c.loop-item.item-index in
    let item = c.item-item.result in
    let made = subst (λ (x : DebugItem). All IsMadeMark (marks_of_item x)) c.item-item.is c.debug_item.ensures in
    subst (All IsMadeMark) (sym (marks_of_more items i item c.loop-item-test.true))
    (All-append IsMadeMark (marks_of (take i items)) (marks_of_item (get_or items i item)) c.loop-item.invariant made)

pub debug_items-returns : goal.debug_items-returns
debug_items-returns t c = subst (λ (items : List DebugItem). All IsMadeMark (marks_of items))
    (take_all c.loop-item.item-index c.args.items.now c.loop-item-test.false) c.loop-item.invariant

pub debug_item-returns-in-Block : goal.debug_item-returns-in-Block
debug_item-returns-in-Block t c =
    let block = c.get-block.result.now in
    let is = c.in-Block.is ∙ ap (λ (its : Block). block_case its) (sym c.get-block.ensures) in
    let begins = subst (λ (name : List ℕ). IsMadeMark (block_begin block.head name)) c.as_slice.ensures c.begin.ensures in
    let inside = subst (λ (items : List DebugItem). All IsMadeMark (marks_of items)) c.as_slice-in-Block.ensures c.debug_items.ensures in
    subst (λ (item : DebugItem). All IsMadeMark (marks_of_item item)) (sym is) (all-block IsMadeMark block begins inside c.end.ensures)
