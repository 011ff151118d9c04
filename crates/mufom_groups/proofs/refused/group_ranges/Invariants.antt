use Rattle.std.proofs.Common.{drop}
use Rattle.mufom_words.specs.Tree.{tree_of}
use Rattle.mufom_groups.proofs.RangeWalk.{IsRanging}
use Rattle.mufom_groups.proofs.refused.group_ranges.Given as goal

abbrev pub invariant-loop-mark : goal.invariant-loop-mark
invariant-loop-mark l = IsRanging (tree_of l.marks) (drop l.mark-index l.marks) l.ranges.items l.count l.begun.items l.mark-index
