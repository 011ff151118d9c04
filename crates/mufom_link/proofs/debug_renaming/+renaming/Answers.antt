use denote.Param.Weighed.{most, at_most}
use Rattle.std.proofs.Common.{◌≡◌, ◌<◌, ◌≤◌, ◌++◌, ◌∷◌, [], length, map, get_or, ap, sym, ◌∙◌, rules, arith}
use Rattle.std.proofs.lemmas.List.{map-append}
use Rattle.mufom_debug.specs.declared.item.Block.{Block}
use Rattle.mufom_debug.specs.declared.item.DebugItem.{DebugItem, Block as block_case}
use Rattle.mufom_debug.specs.Marks.{block_begin, block_end, marks_of, marks_of_item}
use Rattle.mufom_debug.proofs.MarksLemmas.{marks-Block}
use Rattle.mufom_debug.proofs.item.DebugItem.TheLaws.{the_size}
use Rattle.mufom_link.specs.Renaming.{renaming_of, renamed_mark}
use Rattle.mufom_link.proofs.MarkLoops.{next-same, next-within, marks-more}
use Rattle.mufom_link.proofs.debug_renaming.+renaming.Goals as goal

pub renamed_item-returns-in_ok-new-in-Block : goal.renamed_item-returns-in_ok-new-in-Block
renamed_item-returns-in_ok-new-in-Block t c =
    let f = renamed_mark (renaming_of c.args.site.now) in
    let b = c.into_inner-head.result in
    let is = c.in-Block.is ∙ ap (λ (block : Block). block_case block) (sym c.into_inner-head.ensures) in
    let head = c.renamed_head.ensures in
    let end = c.renamed_end.ensures in
    let items : marks_of c.in_ok-renamed_items-in-Block.field-0 ≡ map f (marks_of b.items) = c.in_ok-renamed_items-in-Block.ensures in
    ap (λ (block : Block). marks_of_item (block_case block)) c.in_ok-new-in-Block.ensures
    ∙ marks-Block (record { head = c.renamed_head.result; name = b.name; items = c.in_ok-renamed_items-in-Block.field-0; end = c.renamed_end.result })
    ∙ (λ i. block_begin (head i) b.name ∷ (items i ++ block_end (end i) ∷ []))
    ∙ sym (ap (λ (item : DebugItem). map f (marks_of_item item)) is
    ∙ ap (map f) (marks-Block b)
    ∙ ap (λ ms. f (block_begin b.head b.name) ∷ ms) (map-append f (marks_of b.items) (block_end b.end ∷ [])))

pub renamed_items-renamed_item-requires : goal.renamed_items-renamed_item-requires
renamed_items-renamed_item-requires t c =
    let f = renamed_mark (renaming_of c.args.site.now) in
    let items = c.args.items in
    let own = c.replace-own.result in
    let now = c.loop-item.item-items in
    let i = c.loop-item.item-index in
    let item = c.item-item.result in
    let within : i < length now = omega (arith, c.loop-item-test.true, c.loop-item.auto.item-items) in
    let same : own ≡ get_or items i item = c.replace-own.ensures.value ∙ next-same f items now i item within c.loop-item.invariant in
    let small : the_size own ≤ most the_size items = rw same (at_most the_size items i item (next-within f items now i item within c.loop-item.invariant)) in
    (search (rules, small), tt)

pub renamed_items-loop-item-preserved : goal.renamed_items-loop-item-preserved
renamed_items-loop-item-preserved t c =
    let f = renamed_mark (renaming_of c.args.site.now) in
    let now = c.loop-item.item-items in
    let i = c.loop-item.item-index in
    let item = c.item-item.result in
    let within : i < length now = omega (arith, c.loop-item-test.true, c.loop-item.auto.item-items) in
    let made = c.in_ok-item.ensures ∙ ap (λ (x : DebugItem). map f (marks_of_item x)) c.replace-own.ensures.value in
    marks-more f c.args.items now i item within c.loop-item.invariant c.in_ok-item.field-0 made
