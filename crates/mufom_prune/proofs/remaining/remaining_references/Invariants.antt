use Rattle.std.proofs.Common.{◌≡◌, ◌++◌, drop}
use Rattle.mufom_prune.specs.Pruned.{remaining}
use Rattle.mufom_prune.proofs.remaining.remaining_references.Given as goal

abbrev pub invariant-loop-place : goal.invariant-loop-place
invariant-loop-place l = l.rest ++ remaining (drop l.place l.marks) (drop l.place l.references) ≡ remaining l.marks l.references
