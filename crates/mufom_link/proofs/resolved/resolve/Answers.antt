use Rattle.std.proofs.Common.{sym, rules, arith}
use Rattle.mufom_meaning.specs.Flat.{public_names}
use Rattle.mufom_link.specs.Refusals.{IsRefusalOf}
use Rattle.mufom_link.proofs.CountLaws.{all-public-names}
use Rattle.mufom_link.proofs.PublicsLaws.{indexed-all}
use Rattle.mufom_link.proofs.RefusalLaws.{names-refused, starts-refused, linkable}
use Rattle.mufom_link.proofs.resolved.resolve.Goals as goal

pub index_publics-requires : goal.index_publics-requires
index_publics-requires c =
    let few = all-public-names c.args.list.now in
    omega (arith, few, c.requires)

pub returns-in_err-publics-clause-refused : goal.returns-in_err-publics-clause-refused
returns-in_err-publics-clause-refused c =
    let refused : IsRefusalOf c.args.list.now c.in_err-publics.field-0.0 =
    names-refused c.args.list.now (sym c.in_default.ensures) c.in_err-publics.field-0.0 c.in_err-publics.ensures in
    search (rules, refused)

pub returns-then-start_count-gt1-clause-refused : goal.returns-then-start_count-gt1-clause-refused
returns-then-start_count-gt1-clause-refused c =
    let once = (indexed-all (public_names c.args.list.now) c.in_ok-publics.publics c.in_ok-publics.ensures).0 in
    let count = c.start_count.ensures in
    starts-refused c.args.list.now (sym c.in_default.ensures) once (omega (arith, count, c.if-start_count-gt1.true))

pub resolved_by-requires-clause-publics : goal.resolved_by-requires-clause-publics
resolved_by-requires-clause-publics c = (indexed-all (public_names c.args.list.now) c.in_ok-publics.publics c.in_ok-publics.ensures).1

pub returns-clause-linkable : goal.returns-clause-linkable
returns-clause-linkable c =
    linkable c.args.list.now c.in_ok-publics.publics c.start_count.result c.in_default.ensures c.in_ok-publics.ensures c.start_count.ensures
    c.if-start_count-gt1.false
