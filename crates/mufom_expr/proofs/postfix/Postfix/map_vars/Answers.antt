use Rattle.std.proofs.Common.{◌∙◌, List, ap, sym, subst}
use Rattle.mufom_expr.specs.declared.token.Token.{Token}
use Rattle.mufom_expr.specs.Held.{tokens_held}
use Rattle.mufom_expr.specs.Tree.{tokens_of}
use Rattle.mufom_expr.specs.Terms.{the_term, LeaveOneTerm}
use Rattle.mufom_expr.specs.Value.{with_variables}
use Rattle.mufom_expr.specs.Renamed.{renamed_tokens}
use Rattle.mufom_expr.proofs.TermsLemmas.{renamed_tokens-tokens_of, LeaveOneTerm-renamed, the_term-renamed}
use Rattle.mufom_expr.proofs.postfix.Postfix.map_vars.Goals as goal

pub of-requires-clause-one : goal.of-requires-clause-one
of-requires-clause-one g c =
    let f = g.M.VarMap.meaning c.args.map.now in
    let one = subst (λ (ts : List Token). LeaveOneTerm ts) (ap tokens_held c.in-Many.is) c.self.invariant.0 in
    let renamed = c.in_ok-tokens-in-Many.ensures.value ∙ ap (renamed_tokens f) c.as_slice.ensures.value in
    subst LeaveOneTerm (sym renamed) (LeaveOneTerm-renamed f c.in-Many.all.items one)

pub returns-in_ok-tokens-in-Many-clause-tree : goal.returns-in_ok-tokens-in-Many-clause-tree
returns-in_ok-tokens-in-Many-clause-tree g c =
    let f = g.M.VarMap.meaning c.args.map.now in
    let one = subst (λ (ts : List Token). LeaveOneTerm ts) (ap tokens_held c.in-Many.is) c.self.invariant.0 in
    let renamed = c.in_ok-tokens-in-Many.ensures.value ∙ ap (renamed_tokens f) c.as_slice.ensures.value in
    c.of.ensures ∙ ap the_term renamed ∙ the_term-renamed f c.in-Many.all.items one
    ∙ ap (with_variables f) (sym (ap (λ held. the_term (tokens_held held)) c.in-Many.is) ∙ c.self.view_is)

pub returns-in_ok-tokens-in-Many-clause-tokens : goal.returns-in_ok-tokens-in-Many-clause-tokens
returns-in_ok-tokens-in-Many-clause-tokens g c =
    let f = g.M.VarMap.meaning c.args.map.now in
    ap tokens_of (returns-in_ok-tokens-in-Many-clause-tree g c) ∙ sym (renamed_tokens-tokens_of f c.args.self.now)
