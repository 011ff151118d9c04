use Rattle.std.proofs.Common.{ℕ, List, sym, subst, ◌∙◌}
use Rattle.mufom_build_text.specs.Reads.{IsSpaceFront}
use Rattle.mufom_build_text.proofs.Heads.{operator_told}
use Rattle.mufom_build_text.proofs.expression.function_of.Goals as goal

pub returns-in-Operator-clause-tells : goal.returns-in-Operator-clause-tells
returns-in-Operator-clause-tells c = λ g more e goes.
    operator_told g more c.after_spaces.result.now
    (subst (λ (l : List ℕ). IsSpaceFront l c.after_spaces.result.now) c.rest.ensures c.after_spaces.ensures.front)
    c.after_spaces.ensures.last (e ∙ c.in-Operator.is) goes ∙ sym c.operator.ensures.exact
