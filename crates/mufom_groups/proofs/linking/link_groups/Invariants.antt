use Rattle.std.proofs.Common.{drop}
use Rattle.std.specs.Vec.Iter.{into_iter_items}
use Rattle.mufom_words.specs.Tree.{tree_of}
use Rattle.mufom_groups.proofs.LinkSteps.{IsLinking}
use Rattle.mufom_groups.proofs.linking.link_groups.Given as goal

abbrev pub invariant-loop-mark : goal.invariant-loop-mark
invariant-loop-mark l = IsLinking l.fn.roots.items (tree_of l.marks) (drop l.mark-index l.marks) l.linked.items l.begun.items (into_iter_items l.rest)
