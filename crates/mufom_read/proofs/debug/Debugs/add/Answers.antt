use Rattle.std.proofs.Common.{◌++◌, List, map, ap, ◌∙◌}
use Rattle.mufom_debug.specs.declared.item.DebugItem.{DebugItem}
use Rattle.mufom_debug.specs.Marks.{joined, marks_of}
use Rattle.mufom_read.specs.DebugSoFar.{marks_to_block}
use Rattle.mufom_read.proofs.so_far.DebugSteps.{then_ok, item-added}
use Rattle.mufom_read.proofs.debug.Debugs.add.Goals as goal

pub returns-clause-marks : goal.returns-clause-marks
returns-clause-marks c =
    let old = c.args.self.now in
    then_ok c.push.result _ _ (λ same. ap (λ (items : List DebugItem). joined (map marks_to_block old.blocks) ++ marks_of items) same
    ∙ item-added old.blocks old.items c.args.item) c.push.ensures.ok
