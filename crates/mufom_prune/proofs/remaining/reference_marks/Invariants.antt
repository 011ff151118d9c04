use Rattle.std.proofs.Common.{◌≡◌, ◌++◌, drop}
use Rattle.mufom_prune.specs.Pruned.{remaining_names, with_commons}
use Rattle.mufom_prune.proofs.remaining.reference_marks.Given as goal

abbrev pub invariant-loop-place : goal.invariant-loop-place
invariant-loop-place l =
    l.all ++ with_commons (remaining_names l.marks l.references) (drop l.place l.marks) (drop l.place l.references)
    ≡ with_commons (remaining_names l.marks l.references) l.marks l.references
