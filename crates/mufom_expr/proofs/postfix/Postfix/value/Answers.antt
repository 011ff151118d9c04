use Rattle.std.proofs.Common.{◌∙◌, ◌^◌, List, ap, sym, subst}
use Rattle.mufom_expr.specs.declared.token.Token.{Token}
use Rattle.mufom_expr.specs.Held.{tokens_held}
use Rattle.mufom_expr.specs.Terms.{the_term, LeaveOneTerm}
use Rattle.mufom_expr.specs.Value.{value_at}
use Rattle.mufom_expr.proofs.Divisors.{single_operands}
use Rattle.mufom_expr.proofs.postfix.Postfix.value.Goals as goal

pub single_value-requires-clause-operand : goal.single_value-requires-clause-operand
single_value-requires-clause-operand g c =
    single_operands c.in-One.token (subst (λ (ts : List Token). LeaveOneTerm ts) (ap tokens_held c.in-One.is) c.self.invariant.0)

pub several_value-requires-clause-one : goal.several_value-requires-clause-one
several_value-requires-clause-one g c =
    subst (λ (ts : List Token). LeaveOneTerm ts) (ap tokens_held c.in-Many.is ∙ sym c.as_slice.ensures.value) c.self.invariant.0

pub returns-in-Many-clause-value : goal.returns-in-Many-clause-value
returns-in-Many-clause-value g c =
    c.several_value.ensures.value
    ∙ ap (value_at (2 ^ c.args.width) (g.E.Env.meaning c.args.env.now))
    (ap the_term c.as_slice.ensures.value ∙ sym (ap (λ held. the_term (tokens_held held)) c.in-Many.is) ∙ c.self.view_is)
