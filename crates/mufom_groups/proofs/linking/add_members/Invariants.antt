use Rattle.std.specs.Vec.Iter.{into_iter_items}
use Rattle.mufom_groups.proofs.Selecting.{IsAdding}
use Rattle.mufom_groups.proofs.linking.add_members.Given as goal

abbrev pub invariant-loop-position : goal.invariant-loop-position
invariant-loop-position l = IsAdding l.initial.roots.items l.fn.members.items l.positions l.position-index l.roots.items (into_iter_items l.rest) l.passed
