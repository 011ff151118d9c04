use Rattle.std.proofs.Common.{◌≢◌, ◌∙◌, [], ◌∷◌, sym, ap}
use Rattle.mufom_planned.specs.Layout.{Layout, layout}
use Rattle.mufom_planned.specs.PlanSymbols.{with_symbols}
use Rattle.mufom_locating.proofs.JoinLaws.{same-list, whole-layout}
use Rattle.mufom_locating.proofs.ExportLaws.{no-copies, unshared}
use Rattle.mufom_locating.proofs.exports.planned_copies.Goals as goal

pub returns-then-loads_in_place : goal.returns-then-loads_in_place
returns-then-loads_in_place c =
    c.new.ensures ∙ no-copies (with_symbols (c.args.module.now ∷ []) c.args.plan.now) c.args.plan.now (c.loads_in_place.ensures c.if-loads_in_place.true)

pub returns-then-is_empty : goal.returns-then-is_empty
returns-then-is_empty c =
    let none = c.is_empty.ensures.0 c.if-is_empty.true in
    c.in_ok-module_copies.ensures ∙ ap (λ ms. (layout ms c.args.plan.now).copied) (sym (same-list c.args.module.now c.args.plan.now none))

pub named-requires-clause-some : goal.named-requires-clause-some
named-requires-clause-some c = λ none. (let is = sym (c.is_empty.ensures.1 none) ∙ c.if-is_empty.false in cc)

pub named-requires-clause-unshared : goal.named-requires-clause-unshared
named-requires-clause-unshared c = unshared (c.args.module.now ∷ []) c.args.plan.now c.requires.located

pub returns : goal.returns
returns c =
    let is = c.in_ok-named.ensures in
    let some : c.args.plan.now.symbols ≢ [] = λ none. (let is = sym (c.is_empty.ensures.1 none) ∙ c.if-is_empty.false in cc) in
    c.in_ok-module_copies-2.ensures
    ∙ ap (λ (l : Layout). l.copied) (whole-layout c.args.module.now is.source c.args.plan.now c.requires.plan.symbols some (λ symbol. 0) c.in_ok-named.named is)
