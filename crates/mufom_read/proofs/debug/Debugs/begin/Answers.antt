use Rattle.std.proofs.Common.{◌++◌, ◌∷◌, List, [], map, ap, ◌∙◌}
use Rattle.mufom_debug.specs.declared.item.DebugItem.{DebugItem}
use Rattle.mufom_debug.specs.Marks.{joined, marks_of}
use Rattle.mufom_read.specs.declared.debug.OpenBlock.{OpenBlock}
use Rattle.mufom_read.specs.DebugSoFar.{stacked, marks_to_block}
use Rattle.mufom_read.proofs.so_far.DebugSteps.{then_ok, block-begun, stacked-one}
use Rattle.mufom_read.proofs.debug.Debugs.begin.Goals as goal

pub returns-clause-marks : goal.returns-clause-marks
returns-clause-marks c =
    let old = c.args.self.now in
    let begun : List DebugItem → OpenBlock = (λ items. record { start = c.args.start; head = c.args.head; name = c.args.name; before = items }) in
    then_ok c.push.result _ _ (λ same.
    ap (λ (blocks : List OpenBlock). joined (map marks_to_block blocks) ++ marks_of c.replace-before.new.dest) (same
    ∙ ap (λ (items : List DebugItem). old.blocks ++ begun items ∷ []) c.replace-before.ensures.value)
    ∙ ap (λ (items : List DebugItem). joined (map marks_to_block (old.blocks ++ begun old.items ∷ []))
    ++ marks_of items) (c.replace-before.ensures.after ∙ c.new.ensures)
    ∙ block-begun old.blocks (begun old.items)) c.push.ensures.ok

pub returns-clause-blocks : goal.returns-clause-blocks
returns-clause-blocks c = then_ok c.push.result _ _ (λ same. ap (λ (blocks : List OpenBlock). stacked [] blocks) same
    ∙ stacked-one [] c.args.self.now.blocks _) c.push.ensures.ok
