use Rattle.std.proofs.Common.{◌≡◌, length, map}
use Rattle.std.specs.Vec.Iter.{into_iter_items, into_iter_len}
use Rattle.mufom_meaning.specs.Flat.{flat_references, public_names}
use Rattle.mufom_meaning.specs.Joined.{kept_references}
use Rattle.mufom_link.specs.References.{target_in}
use Rattle.mufom_link.proofs.JoiningLaws.{IsUnderway}
use Rattle.mufom_link.proofs.linking.join_lists.Given as goal

abbrev pub invariant-loop-module : goal.invariant-loop-module
invariant-loop-module l = record {
  underway : IsUnderway l.fn.list.items (into_iter_items l.module-iterator) l.joined;
  variables : l.rest ≡ map (target_in (public_names l.fn.list.items) (kept_references l.fn.list.items)) (flat_references (into_iter_items l.module-iterator));
  counted : into_iter_len l.module-iterator ≡ length (into_iter_items l.module-iterator);
}
