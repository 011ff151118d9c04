use Rattle.std.proofs.Common.{List, ◌≤◌, length, None, ◌≡◌, sym, subst}
use Rattle.mufom_module.specs.declared.module.Parts.{Parts}
use Rattle.mufom_meaning.specs.Flat.{flat_starts}
use Rattle.mufom_meaning.specs.LinkAnswer.{link_answer}
use Rattle.mufom_link.specs.Conditions.{MayBeLinked}
use Rattle.mufom_link.specs.Linking.{IsPartialLink}
use Rattle.mufom_link.specs.References.{AreResolved}
use Rattle.mufom_link.proofs.linking.link.Goals as goal

pub linked-requires : goal.linked-requires
linked-requires c =
    let same = sym c.in_ok-copies.ensures in
    let all = c.in_ok-references.ensures in
    record {
      conditions = subst (λ (ms : List Parts). MayBeLinked ms c.args.name.now) same c.requires;
      resolved = subst (λ (ms : List Parts). AreResolved ms c.in_ok-references.references.targets c.in_ok-references.references.kept) same all.resolved;
      linkable = subst (λ (ms : List Parts). link_answer ms ≡ None) same all.linkable;
      starts = subst (λ (ms : List Parts). length (flat_starts ms) ≤ 1) same all.starts;
    }

pub returns-clause-joined : goal.returns-clause-joined
returns-clause-joined c = (subst (λ (ms : List Parts). IsPartialLink c.in_ok-linked.field-0 ms c.args.name.now) c.in_ok-copies.ensures
    c.in_ok-linked.ensures).joined

pub returns-clause-stands : goal.returns-clause-stands
returns-clause-stands c = (subst (λ (ms : List Parts). IsPartialLink c.in_ok-linked.field-0 ms c.args.name.now) c.in_ok-copies.ensures
    c.in_ok-linked.ensures).stands

pub returns-clause-sections : goal.returns-clause-sections
returns-clause-sections c = (subst (λ (ms : List Parts). IsPartialLink c.in_ok-linked.field-0 ms c.args.name.now) c.in_ok-copies.ensures
    c.in_ok-linked.ensures).sections

pub returns-clause-names : goal.returns-clause-names
returns-clause-names c = (subst (λ (ms : List Parts). IsPartialLink c.in_ok-linked.field-0 ms c.args.name.now) c.in_ok-copies.ensures
    c.in_ok-linked.ensures).names

pub returns-clause-settled : goal.returns-clause-settled
returns-clause-settled c = (subst (λ (ms : List Parts). IsPartialLink c.in_ok-linked.field-0 ms c.args.name.now) c.in_ok-copies.ensures
    c.in_ok-linked.ensures).settled

pub returns-clause-weighs : goal.returns-clause-weighs
returns-clause-weighs c = (subst (λ (ms : List Parts). IsPartialLink c.in_ok-linked.field-0 ms c.args.name.now) c.in_ok-copies.ensures
    c.in_ok-linked.ensures).weighs
