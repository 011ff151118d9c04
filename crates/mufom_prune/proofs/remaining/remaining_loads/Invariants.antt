use Rattle.std.proofs.Common.{◌≡◌, ◌++◌, None, drop}
use Rattle.mufom_module.specs.Contents.{placed_from}
use Rattle.mufom_prune.specs.Pruned.{remaining_loads}
use Rattle.mufom_prune.proofs.remaining.remaining_loads.Given as goal

abbrev pub invariant-loop-load : goal.invariant-loop-load
invariant-loop-load l =
    l.rest ++ remaining_loads l.marks l.positions (placed_from l.current (drop l.load-index l.loads))
    ≡ remaining_loads l.marks l.positions (placed_from None l.loads)
