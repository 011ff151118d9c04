use Rattle.std.proofs.Common.{List, ◌∙◌}
use Rattle.std.proofs.lemmas.Result.{IfOk-weaker}
use Rattle.mufom_debug.specs.declared.item.DebugItem.{DebugItem}
use Rattle.mufom_debug.specs.Marks.{marks_of}
use Rattle.mufom_debug.proofs.Rebuilt.{same_items}
use Rattle.mufom_copies.proofs.MarkLaws.{same-marks}
use Rattle.mufom_copies.proofs.debug.copy_debug_items.Goals as goal

pub returns : goal.returns
returns c =
    let items = c.args.items.now in
    IfOk-weaker _ _ _ (λ (copies : List DebugItem) marks. same_items copies items (marks ∙ same-marks (marks_of items))) c.map_debug_items.ensures
