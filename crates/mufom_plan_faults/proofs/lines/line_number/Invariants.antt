use Rattle.std.proofs.Common.{◌≡◌, ◌+◌, ◌≤◌, take}
use Rattle.mufom_plan_faults.specs.Lines.{line_number}
use Rattle.mufom_plan_faults.proofs.lines.line_number.Given as goal

abbrev pub invariant-loop-at : goal.invariant-loop-at
invariant-loop-at l = (l.line ≡ line_number (take l.at l.before)) × (l.line ≤ l.at + 1)
