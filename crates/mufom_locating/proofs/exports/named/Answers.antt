use Rattle.std.proofs.Common.{◌∙◌, ap}
use Rattle.std.specs.Prelude.{replicate}
use Rattle.mufom_plan.specs.declared.plan.PlanSymbol.{PlanSymbol}
use Rattle.mufom_locating.specs.Numbered.{AreValues}
use Rattle.mufom_locating.proofs.LinkLaws.{zero-values}
use Rattle.mufom_locating.proofs.exports.named.Goals as goal

pub linked-requires-clause-values : goal.linked-requires-clause-values
linked-requires-clause-values c = record {
  numbers = λ (symbol : PlanSymbol). 0;
  are = c.deref.ensures.value ∙ c.in_ok-zeros.ensures ∙ ap (λ n. replicate n 0) c.len.ensures
      ∙ zero-values c.args.module.now.maus c.args.plan.now.symbols;
}

pub returns : goal.returns
returns c =
    let are : AreValues c.args.module.now.maus (λ symbol. 0) c.args.plan.now.symbols c.deref.result.now =
    c.deref.ensures.value ∙ c.in_ok-zeros.ensures ∙ ap (λ n. replicate n 0) c.len.ensures
    ∙ zero-values c.args.module.now.maus c.args.plan.now.symbols in
    c.in_ok-linked.ensures (λ symbol. 0) are
