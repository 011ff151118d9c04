use Rattle.std.proofs.Common.{◌≤◌, take}
use Rattle.mufom_debug.specs.Marks.{marks_of, depth_of}
use Rattle.mufom_debug.proofs.deepest.+within.Given as goal

abbrev pub invariant-is_within_depth-loop-item : goal.invariant-is_within_depth-loop-item
invariant-is_within_depth-loop-item l = depth_of (marks_of (take l.item-index l.items)) ≤ l.limit
