use denote.Param.Weighed.{most, at_most}
use Rattle.std.proofs.Common.{◌+◌, ◌≤◌, ap, sym, ◌∙◌, drop, rules, arith}
use Rattle.mufom_debug.specs.declared.item.Block.{Block}
use Rattle.mufom_debug.specs.declared.item.DebugItem.{DebugItem, the_lemmas}
use Rattle.mufom_debug.specs.Marks.{marks_of, marks_of_item, names_after_all}
use Rattle.mufom_debug.proofs.item.DebugItem.TheLaws.{the_size}
use Rattle.mufom_debug.proofs.NameCounts.{names-append, names-Block, marks-next}
use Rattle.mufom_link.proofs.RenamingLaws.{names-counted}
use Rattle.mufom_link.proofs.debug_renaming.+names.Goals as goal

pub names_after-names_after_item-count-requires : goal.names_after-names_after_item-count-requires
names_after-names_after_item-count-requires t c =
    let items = c.args.items.now in
    let i = c.loop-item.item-index in
    let item = c.item-item.result in
    let rest = marks_of (drop (i + 1) items) in
    let small : the_size item ≤ most the_size items = rw c.item-item.is (at_most the_size items i item c.loop-item-test.true) in
    let next = ap (names_after_all c.loop-item.count) (marks-next items i item c.loop-item-test.true c.item-item.is)
    ∙ names-append c.loop-item.count (marks_of_item item) rest in
    let grown = names-counted (names_after_all c.loop-item.count (marks_of_item item)) rest in
    (search (rules, small), omega (arith, next, grown, c.loop-item.invariant, c.requires))

pub names_after-loop-item-preserved : goal.names_after-loop-item-preserved
names_after-loop-item-preserved t c =
    let items = c.args.items.now in
    let i = c.loop-item.item-index in
    let item = c.item-item.result in
    let rest = marks_of (drop (i + 1) items) in
    ap (λ n. names_after_all n rest) c.names_after_item-count.ensures
    ∙ sym (ap (names_after_all c.loop-item.count) (marks-next items i item c.loop-item-test.true c.item-item.is)
    ∙ names-append c.loop-item.count (marks_of_item item) rest)
    ∙ c.loop-item.invariant

pub names_after_item-names_after-requires : goal.names_after_item-names_after-requires
names_after_item-names_after-requires t c =
    let inner = names-Block c.args.before c.in-Block.block in
    let whole = ap (λ (item : DebugItem). names_after_all c.args.before (marks_of_item item)) c.in-Block.is in
    let own = ap (λ items. names_after_all c.args.before (marks_of items)) (c.as_slice.ensures ∙ ap (λ (block : Block). block.items) c.get.ensures) in
    (search (rules, the_lemmas), omega (arith, inner, whole, own, c.requires))

pub names_after_item-returns-in-Block : goal.names_after_item-returns-in-Block
names_after_item-returns-in-Block t c =
    let inner = names-Block c.args.before c.in-Block.block in
    let whole = ap (λ (item : DebugItem). names_after_all c.args.before (marks_of_item item)) c.in-Block.is in
    let own = ap (λ items. names_after_all c.args.before (marks_of items)) (c.as_slice.ensures ∙ ap (λ (block : Block). block.items) c.get.ensures) in
    c.names_after.ensures ∙ own ∙ sym inner ∙ sym whole
