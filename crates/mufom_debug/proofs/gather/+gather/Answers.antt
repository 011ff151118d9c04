use Rattle.std.proofs.Common.{map, ◌++◌, ap, ◌∙◌, append_assoc, take, Bor}
use Rattle.mufom_expr.specs.Tree.{Tree}
use Rattle.mufom_debug.specs.declared.item.DebugItem.{DebugItem}
use Rattle.mufom_debug.specs.Marks.{marks_of, marks_of_item, expressions_of}
use Rattle.mufom_debug.proofs.MarksLemmas.{expressions_of_more}
use Rattle.mufom_debug.proofs.gather.+gather.Goals as goal

pub gather-loop-item-preserved : goal.gather-loop-item-preserved
gather-loop-item-preserved t c =
    let before = expressions_of (marks_of (take c.loop-item.item-index c.args.items.now)) in
    let its = expressions_of (marks_of_item c.item-item.result) in
    c.in_ok-gather_item.ensures ∙ ap (λ es. es ++ its) c.loop-item.invariant ∙ append_assoc (map (λ (e : Bor Tree). e.now) c.args.list.now.items) before its
    ∙ ap (λ es. map (λ (e : Bor Tree). e.now) c.args.list.now.items ++ es) (
    ap (λ (item : DebugItem). before ++ expressions_of (marks_of_item item)) c.item-item.is
    ∙ expressions_of_more c.args.items.now c.loop-item.item-index c.item-item.result c.loop-item-test.true)
