use Rattle.std.proofs.Common.{◌≡◌, ◌∙◌, ◌*◌, ◌%◌, ◌^◌, List, ℕ, [], ◌∷◌, map, sym, ap, subst}
use Rattle.std.proofs.lemmas.Result.{err_from_is_err_and}
use Rattle.mufom_plan.specs.declared.plan.PlanSymbol.{PlanSymbol}
use Rattle.mufom_locating.specs.Linked.{IsLinkWith}
use Rattle.mufom_locating.specs.Numbered.{AreValues}
use Rattle.mufom_locating.specs.Placed.{numbers_of}
use Rattle.mufom_locating.proofs.LinkLaws.{nothing-shared}
use Rattle.mufom_locating.proofs.JoinLaws.{copied-met, laid-linked, linked-distinct, linked-planned}
use Rattle.mufom_locating.proofs.locating.locate_named.Goals as goal

pub located_at-requires-clause-names : goal.located_at-requires-clause-names
located_at-requires-clause-names c =
    let m = c.args.module.now in
    let plan = c.args.plan.now in
    let numbers = numbers_of m plan in
    let laid = c.in_ok-placed.ensures.laid in
    let are : AreValues m.maus numbers c.as_slice.result.now c.deref.result.now = c.deref.ensures.value ∙ laid.values_are
    ∙ ap (λ (ss : List PlanSymbol). map (λ symbol. numbers symbol % 2 ^ (8 * m.maus)) ss) (sym c.as_slice.ensures) in
    let is : IsLinkWith m numbers plan.symbols c.in_ok-whole.whole = subst (λ ss. IsLinkWith m numbers ss c.in_ok-whole.whole) c.as_slice.ensures
    (c.in_ok-whole.ensures.joined numbers are) in
    linked-distinct m is.source plan c.requires.plan.symbols c.requires.some numbers c.in_ok-whole.whole is

pub located_at-requires-clause-placed : goal.located_at-requires-clause-placed
located_at-requires-clause-placed c =
    let m = c.args.module.now in
    let plan = c.args.plan.now in
    let numbers = numbers_of m plan in
    let laid = c.in_ok-placed.ensures.laid in
    let are : AreValues m.maus numbers c.as_slice.result.now c.deref.result.now = c.deref.ensures.value ∙ laid.values_are
    ∙ ap (λ (ss : List PlanSymbol). map (λ symbol. numbers symbol % 2 ^ (8 * m.maus)) ss) (sym c.as_slice.ensures) in
    let is : IsLinkWith m numbers plan.symbols c.in_ok-whole.whole = subst (λ ss. IsLinkWith m numbers ss c.in_ok-whole.whole) c.as_slice.ensures
    (c.in_ok-whole.ensures.joined numbers are) in
    laid-linked m is.source plan c.requires.plan.symbols c.requires.some numbers c.in_ok-whole.whole is c.in_ok-placed.placed laid.placed

pub returns-in_err-located_at-clause-refused : goal.returns-in_err-located_at-clause-refused
returns-in_err-located_at-clause-refused c =
    let m = c.args.module.now in
    let plan = c.args.plan.now in
    let numbers = numbers_of m plan in
    let laid = c.in_ok-placed.ensures.laid in
    let are : AreValues m.maus numbers c.as_slice.result.now c.deref.result.now = c.deref.ensures.value ∙ laid.values_are
    ∙ ap (λ (ss : List PlanSymbol). map (λ symbol. numbers symbol % 2 ^ (8 * m.maus)) ss) (sym c.as_slice.ensures) in
    let is : IsLinkWith m numbers plan.symbols c.in_ok-whole.whole = subst (λ ss. IsLinkWith m numbers ss c.in_ok-whole.whole) c.as_slice.ensures
    (c.in_ok-whole.ensures.joined numbers are) in
    let none = nothing-shared m c.requires.names numbers plan.symbols c.requires.plan.symbols.distinct is.links in
    let p = err_from_is_err_and c.from_residual-in_err-located_at.result c.from_residual-in_err-located_at.ensures.1 in
    rw (p.1, p.2)
    (copied-met m is.source plan c.requires.plan.symbols c.requires.some c.in_ok-whole.whole is none c.in_err-located_at.field-0.0
    c.in_err-located_at.ensures.refused)

pub returns-clause-located : goal.returns-clause-located
returns-clause-located c =
    let m = c.args.module.now in
    let plan = c.args.plan.now in
    let numbers = numbers_of m plan in
    let laid = c.in_ok-placed.ensures.laid in
    let are : AreValues m.maus numbers c.as_slice.result.now c.deref.result.now = c.deref.ensures.value ∙ laid.values_are
    ∙ ap (λ (ss : List PlanSymbol). map (λ symbol. numbers symbol % 2 ^ (8 * m.maus)) ss) (sym c.as_slice.ensures) in
    let is : IsLinkWith m numbers plan.symbols c.in_ok-whole.whole = subst (λ ss. IsLinkWith m numbers ss c.in_ok-whole.whole) c.as_slice.ensures
    (c.in_ok-whole.ensures.joined numbers are) in
    let none = nothing-shared m c.requires.names numbers plan.symbols c.requires.plan.symbols.distinct is.links in
    linked-planned m is.source plan c.requires.plan.symbols c.requires.some c.in_ok-whole.whole is c.requires.names none c.in_ok-located_at.field-0
    c.in_ok-located_at.ensures.located
