use Rattle.std.proofs.Common.{map, rules}
use Rattle.std.specs.Vec.Iter.{into_iter_items}
use Rattle.mufom_words.specs.Tree.{groups, tree_of}
use Rattle.mufom_meaning.specs.Selection.{members_at}
use Rattle.mufom_groups.specs.Groups.{StopsWork}
use Rattle.mufom_groups.specs.Linked.{links}
use Rattle.mufom_groups.proofs.LinkSteps.{linking-begins, refused-here, taken-here}
use Rattle.mufom_groups.proofs.linking.link_groups.Goals as goal

pub loop-mark-init : goal.loop-mark-init
loop-mark-init c =
    rw (c.new-linked.ensures.items, c.new-begun.ensures.items, c.into_iter-rest.ensures.rest)
    (linking-begins c.args.roots.items (tree_of c.args.marks.now) c.args.marks.now c.requires.spelled c.requires.numbered)

pub returns-in_err-take_mark-clause-refused : goal.returns-in_err-take_mark-clause-refused
returns-in_err-take_mark-clause-refused c =
    let refused : StopsWork (links (map (members_at c.args.roots.items) (groups (tree_of c.args.marks.now)))) c.in_err-take_mark.field-0.0
    = refused-here c.args.roots.items (tree_of c.args.marks.now) c.args.marks.now c.loop-mark.mark-index _ c.loop-mark.linked.items
    c.loop-mark.begun.items (into_iter_items c.loop-mark.rest) c.loop-mark-test.true c.loop-mark.invariant
    c.requires.valid c.requires.light c.in_err-take_mark.field-0.0 c.in_err-take_mark.ensures.refused in
    search (rules, refused)

pub loop-mark-preserved : goal.loop-mark-preserved
loop-mark-preserved c =
    taken-here c.args.roots.items (tree_of c.args.marks.now) c.args.marks.now c.loop-mark.mark-index _ c.loop-mark.linked.items
    c.loop-mark.begun.items (into_iter_items c.loop-mark.rest) c.loop-mark-test.true c.loop-mark.invariant
    c.requires.valid c.requires.light c.take_mark.new.begun.items c.take_mark.new.linked.items (into_iter_items c.take_mark.new.rest)
    c.in_ok-take_mark.ensures.ok
