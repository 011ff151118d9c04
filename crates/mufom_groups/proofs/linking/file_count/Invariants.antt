use Rattle.std.proofs.Common.{◌≡◌, ◌+◌, ◌≤◌, length, drop}
use Rattle.mufom_groups.specs.Groups.{files_of}
use Rattle.mufom_groups.proofs.linking.file_count.Given as goal

abbrev pub invariant-loop-mark : goal.invariant-loop-mark
invariant-loop-mark l = (l.count + length (files_of (drop l.mark-index l.marks)) ≡ length (files_of l.marks)) × (l.count ≤ l.mark-index)
