use Rattle.std.proofs.Common.{◌++◌, map, take, ap, sym, ◌∙◌}
use Rattle.std.proofs.lemmas.List.{map-append}
use Rattle.mufom_debug.specs.declared.item.DebugItem.{DebugItem}
use Rattle.mufom_debug.specs.Marks.{marks_of, marks_of_item}
use Rattle.mufom_debug.proofs.MarksLemmas.{marks_of_more}
use Rattle.mufom_copies.specs.Mapped.{mapped_mark}
use Rattle.mufom_copies.proofs.MarkLaws.{marks-push}
use Rattle.mufom_copies.proofs.debug.+copying.Goals as goal

pub map_debug_items-loop-item-preserved : goal.map_debug_items-loop-item-preserved
map_debug_items-loop-item-preserved g t c =
    let f = mapped_mark (g.M.ExpressionMap.meaning c.args.map.now) in
    let items = c.args.items.now in
    let i = c.loop-item.item-index in
    let item = c.item-item.result in
    let before = marks_of (take i items) in
    ap marks_of c.in_ok-push.ensures.ok
    ∙ marks-push c.loop-item.copies c.in_ok-map_debug_item.field-0
    ∙ (λ j. c.loop-item.invariant j ++ c.in_ok-map_debug_item.ensures j)
    ∙ sym (map-append f before (marks_of_item item))
    ∙ ap (λ (x : DebugItem). map f (before ++ marks_of_item x)) c.item-item.is
    ∙ ap (map f) (sym (marks_of_more items i item c.loop-item-test.true))
