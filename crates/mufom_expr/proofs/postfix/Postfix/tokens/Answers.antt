use Rattle.std.proofs.Common.{ap, ◌∙◌, subst, length, ◌≤◌}
use Rattle.std.specs.List.{AllByRecursion}
use Rattle.mufom_expr.specs.Tree.{tokens_of, IsInRange}
use Rattle.mufom_expr.proofs.TermsLemmas.{tokens_of-the_term}
use Rattle.mufom_expr.proofs.postfix.Postfix.tokens.Goals as goal

pub returns-clause-tokens : goal.returns-clause-tokens
returns-clause-tokens c = c.as_slice.ensures ∙ tokens_of-the_term _ c.self.invariant.0 ∙ ap tokens_of c.self.view_is

pub returns-clause-few : goal.returns-clause-few
returns-clause-few c = subst (λ ts. length ts ≤ 255) (tokens_of-the_term _ c.self.invariant.0 ∙ ap tokens_of c.self.view_is) c.self.invariant.1

pub returns-clause-range : goal.returns-clause-range
returns-clause-range c = subst (λ ts. AllByRecursion IsInRange ts) (tokens_of-the_term _ c.self.invariant.0 ∙ ap tokens_of c.self.view_is) c.self.invariant.2
