use Rattle.std.proofs.Common.{◌≡◌, ◌+◌, ◌<◌, ◌^◌, length, drop}
use Rattle.mufom_meaning.specs.StagingLaws.{total_weight}
use Rattle.mufom_link.proofs.conditions.is_light.Given as goal

abbrev pub invariant-loop-module : goal.invariant-loop-module
invariant-loop-module l =
    (l.total + total_weight (drop l.module-index l.list) ≡ total_weight l.list + length l.name) × (l.total < 2 ^ 32)
