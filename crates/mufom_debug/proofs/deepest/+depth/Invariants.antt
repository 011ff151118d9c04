use Rattle.std.proofs.Common.{◌≡◌, take}
use Rattle.mufom_debug.specs.Marks.{marks_of, depth_of}
use Rattle.mufom_debug.proofs.deepest.+depth.Given as goal

abbrev pub invariant-depth-loop-item : goal.invariant-depth-loop-item
invariant-depth-loop-item l = l.deepest ≡ depth_of (marks_of (take l.item-index l.items))
