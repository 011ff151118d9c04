use Rattle.std.proofs.Common.{◌∙◌, ◌^◌, List, ap, sym, subst}
use Rattle.mufom_expr.specs.declared.token.Token.{Token}
use Rattle.mufom_expr.specs.Terms.{the_term, LeaveOneTerm}
use Rattle.mufom_expr.specs.Value.{value_at, divides_by_zero}
use Rattle.mufom_expr.proofs.postfix.Postfix.divides_by_zero.Goals as goal

pub has_zero_divisor-requires-clause-one : goal.has_zero_divisor-requires-clause-one
has_zero_divisor-requires-clause-one g c = subst (λ (ts : List Token). LeaveOneTerm ts) (sym c.as_slice.ensures) c.self.invariant.0

pub returns : goal.returns
returns g c =
    c.has_zero_divisor.ensures
    ∙ ap (divides_by_zero (value_at (2 ^ c.args.width) (g.E.Env.meaning c.args.env.now))) (ap the_term c.as_slice.ensures ∙ c.self.view_is)
