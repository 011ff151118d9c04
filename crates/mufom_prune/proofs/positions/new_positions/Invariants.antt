use Rattle.std.proofs.Common.{◌≡◌, ◌≤◌, ◌++◌, drop}
use Rattle.mufom_prune.specs.Pruned.{new_positions}
use Rattle.mufom_prune.proofs.positions.new_positions.Given as goal

abbrev pub invariant-loop-mark : goal.invariant-loop-mark
invariant-loop-mark l = (l.positions ++ new_positions l.next (drop l.mark-index l.marks) ≡ new_positions 0 l.marks) × (l.next ≤ l.mark-index)
