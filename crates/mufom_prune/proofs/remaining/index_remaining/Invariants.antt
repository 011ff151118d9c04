use Rattle.std.proofs.Common.{◌≡◌, [], drop}
use Rattle.mufom_prune.specs.Steps.{with_remaining}
use Rattle.mufom_prune.proofs.remaining.index_remaining.Given as goal

abbrev pub invariant-loop-place : goal.invariant-loop-place
invariant-loop-place l = with_remaining l.index (drop l.place l.marks) (drop l.place l.references) ≡ with_remaining [] l.marks l.references
