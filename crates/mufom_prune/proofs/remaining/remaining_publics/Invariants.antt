use Rattle.std.proofs.Common.{◌≡◌, ◌++◌, drop, map}
use Rattle.mufom_prune.specs.Pruned.{remaining, new_public}
use Rattle.mufom_prune.proofs.remaining.remaining_publics.Given as goal

abbrev pub invariant-loop-place : goal.invariant-loop-place
invariant-loop-place l = l.rest ++ map (new_public l.positions) (remaining (drop l.place l.marks) (drop l.place l.publics))
    ≡ map (new_public l.positions) (remaining l.marks l.publics)
