use Rattle.std.proofs.Common.{◌≡◌, ◌++◌, drop}
use Rattle.mufom_prune.specs.Pruned.{remaining}
use Rattle.mufom_prune.proofs.remaining.remaining_sections.Given as goal

abbrev pub invariant-loop-place : goal.invariant-loop-place
invariant-loop-place l = l.rest ++ remaining (drop l.place l.marks) (drop l.place l.sections) ≡ remaining l.marks l.sections
