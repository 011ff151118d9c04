use Rattle.std.proofs.Common.{rules, refl, sym, ap, ◌∙◌, inr, ◌<◌, length}
use Rattle.mufom_expr.specs.Tree.{tokens_of}
use Rattle.mufom_expr.specs.Terms.{LeaveOneTerm}
use Rattle.mufom_expr.proofs.TermsLemmas.{tokens_of-the_term}
use Rattle.mufom_expr.proofs.Leaves.{leaves-few}
use Rattle.mufom_expr.proofs.builder.Builder.finish.Goals as goal

pub returns-then-terms-gt1-clause-surplus : goal.returns-then-terms-gt1-clause-surplus
returns-then-terms-gt1-clause-surplus c = (λ e. rw (← c.self.view_is) (c.self.inside.terms, c.self.invariant.0, c.if-terms-gt1.true), λ h. refl)

pub returns-then-terms-gt1-clause-only : goal.returns-then-terms-gt1-clause-only
returns-then-terms-gt1-clause-only c = rw (← c.self.view_is) (inr (c.self.inside.terms, c.self.invariant.0, c.if-terms-gt1.true))

pub of-requires-clause-one : goal.of-requires-clause-one
of-requires-clause-one c =
    let some : 0 < length c.self.inside.tokens.items = search rules in
    leaves-few c.self.inside.tokens.items c.self.inside.terms c.self.invariant.0 c.if-terms-gt1.false some

pub returns-clause-tokens : goal.returns-clause-tokens
returns-clause-tokens c =
    let some : 0 < length c.self.inside.tokens.items = search rules in
    let one : LeaveOneTerm c.self.inside.tokens.items = leaves-few c.self.inside.tokens.items c.self.inside.terms c.self.invariant.0
    c.if-terms-gt1.false some in
    rw (← c.self.view_is) (ap tokens_of c.of.ensures ∙ sym (tokens_of-the_term c.self.inside.tokens.items one))
