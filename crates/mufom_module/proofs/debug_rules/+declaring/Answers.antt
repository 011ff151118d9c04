use Rattle.std.proofs.Common.{◌≡◌, Some, None, option_map, sym, ap, ◌∙◌}
use Rattle.mufom_debug.specs.declared.item.Block.{Block}
use Rattle.mufom_debug.specs.declared.item.DebugItem.{DebugItem}
use Rattle.mufom_debug.specs.Marks.{marks_of, marks_of_item}
use Rattle.mufom_module.specs.Defects.{declared_after}
use Rattle.mufom_module.specs.Weights.{capped}
use Rattle.mufom_module.proofs.Walks.{declared_step, declared_stop, declared_after-Block}
use Rattle.mufom_module.proofs.debug_rules.+declaring.Goals as goal

pub all_declare-returns-in_err-declared : goal.all_declare-returns-in_err-declared
all_declare-returns-in_err-declared t c = λ n h.
    let before = c.loop-item.invariant n h in
    let was : c.item_declares.result ≡ None = c.in_err-declared.was in
    let stop = declared_stop (declared_after n (marks_of c.args.items.now)) before.0 c.args.items.now c.loop-item.item-index c.item-item.result
    c.loop-item-test.true c.item-item.is before.2 (sym (c.item_declares.ensures before.0 before.1) ∙ was) in
    c.from_residual.ensures ∙ sym (ap (option_map capped) stop)

pub all_declare-loop-item-preserved : goal.all_declare-loop-item-preserved
all_declare-loop-item-preserved t c = λ n h.
    let before = c.loop-item.invariant n h in
    let was : c.item_declares.result ≡ Some c.in_ok-declared.declared = c.in_ok-declared.was in
    declared_step (declared_after n (marks_of c.args.items.now)) before.0 c.args.items.now c.loop-item.item-index c.item-item.result c.in_ok-declared.declared
    c.loop-item-test.true c.item-item.is before.2 (sym (c.item_declares.ensures before.0 before.1) ∙ was)

pub item_declares-returns-in-Block : goal.item_declares-returns-in-Block
item_declares-returns-in-Block t c = λ n h.
    c.all_declare.ensures n h
    ∙ ap (λ items. option_map capped (declared_after n (marks_of items))) (c.as_slice.ensures ∙ ap (λ (block : Block). block.items) c.get.ensures)
    ∙ ap (option_map capped) (sym (declared_after-Block n c.in-Block.block))
    ∙ ap (λ (x : DebugItem). option_map capped (declared_after n (marks_of_item x))) (sym c.in-Block.is)
