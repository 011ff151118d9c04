use Rattle.std.proofs.Common.{◌≡◌, ◌^◌, [], drop, reverse, arith, length-drop}
use Rattle.std.proofs.lemmas.List.{drop_more, nil_from_length}
use Rattle.mufom_expr.specs.Terms.{the_term}
use Rattle.mufom_expr.proofs.Divisors.{steps_dividing, ends_dividing}
use Rattle.mufom_expr.proofs.postfix.has_zero_divisor.Goals as goal

pub loop-token-preserved : goal.loop-token-preserved
loop-token-preserved g c =
    let items = c.args.tokens.now in
    let values = reverse c.loop-token.stack.items in
    let m = 2 ^ c.args.width in
    let env = g.E.Env.meaning c.args.env.now in
    let i = c.loop-token.token-index in
    let here = drop_more items i _ c.loop-token-test.true in (
      steps_dividing m env items (the_term items) i values c.loop-token.found c.loop-token.invariant.0 _ here _ _
          c.step.ensures.value c.finds_zero_divisor-found.ensures,
      omega (arith, c.step.ensures.length, c.loop-token.invariant.1),
      c.step.ensures.residues,
    )

pub returns : goal.returns
returns g c =
    let items = c.args.tokens.now in
    let i = c.loop-token.token-index in
    let past : drop i items ≡ [] = nil_from_length _ (omega (arith, length-drop i items, c.loop-token-test.false)) in
    ends_dividing (2 ^ c.args.width) (g.E.Env.meaning c.args.env.now) items (the_term items) i (reverse c.loop-token.stack.items) c.loop-token.found
    c.loop-token.invariant.0 past
