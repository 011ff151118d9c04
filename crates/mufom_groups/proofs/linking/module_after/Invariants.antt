use Rattle.std.proofs.Common.{◌≡◌, drop}
use Rattle.std.specs.Vec.Iter.{into_iter_items}
use Rattle.mufom_groups.proofs.linking.module_after.Given as goal

abbrev pub invariant-loop-turn : goal.invariant-loop-turn
invariant-loop-turn l = into_iter_items l.rest ≡ drop l.turn (into_iter_items l.initial.rest)
