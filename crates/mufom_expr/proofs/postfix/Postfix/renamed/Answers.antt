use Rattle.std.proofs.Common.{◌∙◌, List, ap, sym, subst}
use Rattle.mufom_expr.specs.declared.token.Token.{Token}
use Rattle.mufom_expr.specs.Held.{tokens_held}
use Rattle.mufom_expr.specs.Terms.{the_term, LeaveOneTerm}
use Rattle.mufom_expr.specs.Value.{with_variables}
use Rattle.mufom_expr.proofs.TermsLemmas.{LeaveOneTerm-renamed, the_term-renamed}
use Rattle.mufom_expr.proofs.postfix.Postfix.renamed.Goals as goal

pub of-requires-clause-one : goal.of-requires-clause-one
of-requires-clause-one g c =
    let f = g.M.VarMap.meaning c.args.map.now in
    let one = subst (λ (ts : List Token). LeaveOneTerm ts) (ap tokens_held c.in-Many.is) c.self.invariant.0 in
    subst LeaveOneTerm (sym c.rename_all.ensures.value) (LeaveOneTerm-renamed f c.in-Many.all.items one)

pub returns-in-Many : goal.returns-in-Many
returns-in-Many g c =
    let f = g.M.VarMap.meaning c.args.map.now in
    let one = subst (λ (ts : List Token). LeaveOneTerm ts) (ap tokens_held c.in-Many.is) c.self.invariant.0 in
    c.of.ensures ∙ ap the_term c.rename_all.ensures.value ∙ the_term-renamed f c.in-Many.all.items one
    ∙ ap (with_variables f) (sym (ap (λ held. the_term (tokens_held held)) c.in-Many.is) ∙ c.self.view_is)
