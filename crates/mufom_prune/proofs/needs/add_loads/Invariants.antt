use Rattle.std.proofs.Common.{◌≡◌, drop}
use Rattle.mufom_module.specs.Contents.{placed_from, placed_loads}
use Rattle.mufom_prune.specs.Steps.{with_loads}
use Rattle.mufom_prune.proofs.needs.add_loads.Given as goal

abbrev pub invariant-loop-load : goal.invariant-loop-load
invariant-loop-load l = with_loads l.parts l.needs.items (placed_from l.current (drop l.load-index l.parts.loads))
    ≡ with_loads l.parts l.fn.needs.items (placed_loads l.parts)
