use Rattle.std.proofs.Common.{◌^◌, ◌+◌, sym, subst, List, reverse, arith}
use Rattle.std.specs.Prelude.{ℕ, Option}
use Rattle.std.proofs.lemmas.List.{drop_more}
use Rattle.mufom_expr.specs.Terms.{the_term}
use Rattle.mufom_expr.specs.Value.{value_at}
use Rattle.mufom_expr.specs.ValueStack.{values_with}
use Rattle.mufom_expr.proofs.Running.{IsRunning, goes_on, values_fit}
use Rattle.mufom_expr.proofs.postfix.stack_value.Goals as goal

pub loop-token-preserved : goal.loop-token-preserved
loop-token-preserved g c =
    let items = c.args.tokens.now in
    let values = reverse c.loop-token.stack.items in
    let m = 2 ^ c.args.width in
    let env = g.E.Env.meaning c.args.env.now in
    let i = c.loop-token.token-index in
    let here = drop_more items i _ c.loop-token-test.true in
    let Runs : List (Option ℕ) → Type 0 = λ vs. IsRunning (value_at m env) items (the_term items) (i + 1) vs in (
      subst Runs (sym c.step.ensures.value) (goes_on (value_at m env) (values_with m env) (values_fit m env) items (the_term items) i values
          c.loop-token.invariant.0 _ here),
      omega (arith, c.step.ensures.length, c.loop-token.invariant.1),
      c.step.ensures.residues,
    )
