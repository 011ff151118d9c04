use Rattle.std.proofs.Common.{rules}
use Rattle.mufom_words.specs.Tree.{tree_of}
use Rattle.mufom_groups.specs.Groups.{StopsWork}
use Rattle.mufom_groups.specs.Linked.{links, tree_links}
use Rattle.mufom_groups.proofs.RootsLink.{groups-refused, roots-linked, roots-refused, some-linked}
use Rattle.mufom_groups.proofs.linking.link_roots.Goals as goal

pub returns-in_err-linked-clause-refused : goal.returns-in_err-linked-clause-refused
returns-in_err-linked-clause-refused c =
    let refused : StopsWork (links (tree_links (tree_of c.args.marks.now) c.args.roots.items)) c.in_err-linked.field-0.0
    = groups-refused (tree_of c.args.marks.now) c.args.roots.items c.in_err-linked.field-0.0 c.in_err-linked.ensures.refused in
    search (rules, refused)

pub link_from-requires-clause-inside : goal.link_from-requires-clause-inside
link_from-requires-clause-inside c = some-linked c.args.marks.now c.args.roots.items c.in_ok-linked.linked.items c.requires.valid
    c.in_ok-linked.ensures.ok c.requires.some

pub returns-in_err-link_from-clause-refused : goal.returns-in_err-link_from-clause-refused
returns-in_err-link_from-clause-refused c =
    let refused : StopsWork (links (tree_links (tree_of c.args.marks.now) c.args.roots.items)) c.in_err-link_from.field-0.0
    = roots-refused c.args.marks.now c.args.roots.items c.in_ok-linked.linked.items c.requires.valid c.in_ok-linked.ensures.ok
    c.in_ok-linked.ensures.linkable c.in_err-link_from.field-0.0 c.in_err-link_from.ensures.refused in
    search (rules, refused)

pub returns-clause-ok : goal.returns-clause-ok
returns-clause-ok c = roots-linked c.args.marks.now c.args.roots.items c.in_ok-linked.linked.items c.requires.valid c.in_ok-linked.ensures.ok
    c.in_ok-linked.ensures.linkable c.link_from.new.linked.items
    c.in_ok-linked.ensures.light c.requires.light c.in_ok-link_from.ensures.ok
