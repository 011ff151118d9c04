use Rattle.std.proofs.Common.{◌≡◌, ◌∙◌, List, ℕ, [], ◌∷◌, sym, ap, subst}
use Rattle.std.proofs.lemmas.Result.{err_from_is_err_and}
use Rattle.mufom_plan.specs.declared.plan.PlanSymbol.{PlanSymbol}
use Rattle.mufom_locating.specs.Linked.{IsLinkWith}
use Rattle.mufom_locating.specs.Numbered.{AreValues}
use Rattle.mufom_locating.proofs.LinkLaws.{nothing-shared, zero-values}
use Rattle.mufom_locating.proofs.JoinLaws.{layout-met, linked-laid, linked-values}
use Rattle.mufom_locating.proofs.locating.named_layout.Goals as goal

pub linked_with-requires-clause-values : goal.linked_with-requires-clause-values
linked_with-requires-clause-values c = record {
  numbers = λ (symbol : PlanSymbol). 0;
  are = c.deref.ensures.value ∙ c.in_ok-zeros.ensures ∙ zero-values c.args.module.now.maus c.as_slice-symbols.result.now;
}

pub returns-in_err-placed-clause-refused : goal.returns-in_err-placed-clause-refused
returns-in_err-placed-clause-refused c =
    let m = c.args.module.now in
    let plan = c.args.plan.now in
    let are : AreValues m.maus (λ symbol. 0) c.as_slice-symbols.result.now c.deref.result.now = c.deref.ensures.value ∙ c.in_ok-zeros.ensures
    ∙ zero-values m.maus c.as_slice-symbols.result.now in
    let is : IsLinkWith m (λ symbol. 0) plan.symbols c.in_ok-named.named = subst (λ ss. IsLinkWith m (λ symbol. 0) ss c.in_ok-named.named) c.as_slice-symbols.ensures
    (c.in_ok-named.ensures.joined (λ symbol. 0) are) in
    let none = nothing-shared m c.requires.names (λ symbol. 0) plan.symbols c.requires.plan.symbols.distinct is.links in
    let p = err_from_is_err_and c.from_residual-in_err-placed.result c.from_residual-in_err-placed.ensures.1 in
    rw (p.1, p.2)
    (layout-met m is.source plan c.requires.plan.symbols c.requires.some (λ symbol. 0) c.in_ok-named.named is none c.in_err-placed.field-0.0
    c.in_err-placed.ensures.refused)

pub returns-clause-laid : goal.returns-clause-laid
returns-clause-laid c =
    let m = c.args.module.now in
    let plan = c.args.plan.now in
    let are : AreValues m.maus (λ symbol. 0) c.as_slice-symbols.result.now c.deref.result.now = c.deref.ensures.value ∙ c.in_ok-zeros.ensures
    ∙ zero-values m.maus c.as_slice-symbols.result.now in
    let is : IsLinkWith m (λ symbol. 0) plan.symbols c.in_ok-named.named = subst (λ ss. IsLinkWith m (λ symbol. 0) ss c.in_ok-named.named) c.as_slice-symbols.ensures
    (c.in_ok-named.ensures.joined (λ symbol. 0) are) in
    record {
      placed = linked-laid m is.source plan c.requires.plan.symbols c.requires.some (λ symbol. 0) c.in_ok-named.named is c.in_ok-placed.placed
          c.in_ok-placed.ensures.placed;
      values_are = linked-values m is.source plan c.requires.plan.symbols c.requires.some (λ symbol. 0) c.in_ok-named.named is c.in_ok-values.values.items
          c.in_ok-values.ensures;
    }
