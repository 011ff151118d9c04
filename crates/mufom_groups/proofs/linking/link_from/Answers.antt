use Rattle.std.proofs.Common.{ℕ, List, ap, subst, sym, ◌<◌, ◌^◌, ◌∙◌, length}
use Rattle.mufom_module.specs.declared.module.Parts.{Parts}
use Rattle.mufom_groups.specs.Groups.{IsLinkedFrom}
use Rattle.mufom_groups.specs.Linked.{first_name}
use Rattle.mufom_groups.proofs.LinkFrom.{some-from, group-conditions, is-linked-from, on-ok}
use Rattle.mufom_groups.proofs.linking.link_from.Goals as goal

pub copy_first_name-requires : goal.copy_first_name-requires
copy_first_name-requires c =
    subst (λ (l : List Parts). 0 < length l) (sym (c.deref.ensures.value ∙ c.in_ok-group.ensures.taken))
    (some-from c.args.start c.args.linked.now.items c.requires.inside)

pub link_owned-requires : goal.link_owned-requires
link_owned-requires c =
    let named = c.as_slice.ensures ∙ c.in_ok-name.ensures.name ∙ ap first_name c.deref.ensures.value in
    group-conditions c.args.linked.now.items c.in_ok-group.group.items c.args.start c.in_ok-group.ensures.taken c.requires.inside c.as_slice.result.now named
    (subst (λ (l : List ℕ). length l < 2 ^ 16) (sym c.as_slice.ensures) c.in_ok-name.ensures.short) c.requires.light

pub returns-clause-ok : goal.returns-clause-ok
returns-clause-ok c =
    let linked = c.args.linked.now.items in
    let named = c.as_slice.ensures ∙ c.in_ok-name.ensures.name ∙ ap first_name c.deref.ensures.value in
    let linking = c.in_ok-link_owned.ensures in
    on-ok c.add.result _ (IsLinkedFrom c.args.start linked c.add.new.linked.items)
    (λ added. is-linked-from linked c.in_ok-group.group.items c.args.start c.in_ok-group.ensures.taken c.requires.inside c.as_slice.result.now named
    c.in_ok-link_owned.field-0 c.add.new.linked.items c.take_from.new.linked.items linking.joined linking.linkable linking.weighs
    c.in_ok-group.ensures.left added)
    c.add.ensures.ok
