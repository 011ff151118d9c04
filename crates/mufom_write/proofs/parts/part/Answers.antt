use Rattle.std.proofs.Common.{◌≡◌, List, length, ap, arith}
use Rattle.mufom_debug.specs.declared.item.DebugItem.{DebugItem}
use Rattle.mufom_debug.specs.Marks.{marks_of}
use Rattle.mufom_write.proofs.Shorter.{few-marks}
use Rattle.mufom_write.proofs.parts.part.Goals as goal

pub debug_items-requires-clause-few : goal.debug_items-requires-clause-few
debug_items-requires-clause-few g c =
    let few = few-marks c.args.parts.now c.requires.valid in
    let same : length (marks_of c.as_slice-in-4.result.now) ≡ length (marks_of c.args.parts.now.debug) =
    ap (λ (items : List DebugItem). length (marks_of items)) c.as_slice-in-4.ensures in
    omega (arith, few, same)
