use Rattle.std.proofs.Common.{◌≡◌, ◌++◌, ◌∷◌, List, [], map, drop, sym, ap, ◌∙◌}
use Rattle.mufom_debug.specs.declared.item.DebugItem.{DebugItem}
use Rattle.mufom_debug.specs.Marks.{block_begin, block_end, joined, marks_of, marks_of_item}
use Rattle.mufom_read.specs.declared.debug.OpenBlock.{OpenBlock}
use Rattle.mufom_read.specs.DebugSoFar.{stacked, marks_to_block}
use Rattle.mufom_read.proofs.so_far.DebugSteps.{then_ok, block-ended, stacked-inner}
use Rattle.mufom_read.proofs.debug.Debugs.end.Goals as goal

pub returns-clause-marks : goal.returns-clause-marks
returns-clause-marks c =
    let old = c.args.self.now in
    let outer = c.pop.new.self in
    let b = c.in-Some.block in
    let item = c.in_ok-block_item-in-Some.field-0 in
    let has : marks_of_item item ≡ block_begin b.head b.name ∷ (marks_of old.items ++ block_end c.args.end ∷ []) =
    c.in_ok-block_item-in-Some.ensures ∙ ap (λ (items : List DebugItem). block_begin b.head b.name ∷ (marks_of items ++ block_end c.args.end ∷ []))
    c.replace-items.ensures.value in
    then_ok c.push.result _ _ (λ same.
    ap (λ (items : List DebugItem). joined (map marks_to_block outer) ++ marks_of items) (same
    ∙ ap (λ (items : List DebugItem). items ++ item ∷ []) c.replace-items.ensures.after)
    ∙ block-ended outer b old.items c.args.end item has
    ∙ ap (λ (blocks : List OpenBlock). (joined (map marks_to_block blocks) ++ marks_of old.items)
    ++ block_end c.args.end ∷ []) (sym c.in-Some.ensures.last)) c.push.ensures.ok

pub returns-clause-blocks : goal.returns-clause-blocks
returns-clause-blocks c =
    then_ok c.push.result _ _ (λ same. stacked-inner c.pop.new.self c.in-Some.block
    ∙ ap (λ (blocks : List OpenBlock). drop 1 (stacked [] blocks)) (sym c.in-Some.ensures.last)) c.push.ensures.ok
