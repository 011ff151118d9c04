use Rattle.std.proofs.Common.{◌≡◌, ℕ, ◌-◌, ◌<◌, ◌≤◌, length, false}
use Rattle.mufom_plan_faults.specs.Lines.{is_whole}
use Rattle.mufom_plan_faults.proofs.lines.last_whole.Given as goal

-- no place after those passed ends whole lines that are a document
abbrev pub invariant-loop-passed : goal.invariant-loop-passed
invariant-loop-passed l = (m : ℕ) → length l.text - l.passed < m → m ≤ length l.text → is_whole l.text m ≡ false
