use Rattle.std.proofs.Common.{◌≡◌, ◌≤◌, ◌+◌, List, [], length, drop, map, reverse, Option, sym, subst, ap, ◌∙◌, arith, length-drop}
use Rattle.std.proofs.lemmas.List.{drop_more, nil_from_length}
use Rattle.mufom_expr.specs.declared.token.Token.{Token}
use Rattle.mufom_expr.specs.Tree.{Tree, tokens_of}
use Rattle.mufom_expr.specs.Terms.{the_term}
use Rattle.mufom_expr.specs.Held.{tokens_held}
use Rattle.mufom_expr.specs.ExprTree.{tree_of_expr, trees_with}
use Rattle.mufom_expr.proofs.Running.{IsRunning, goes_on, some_tree, trees_fit}
use Rattle.mufom_expr.proofs.TermsLemmas.{tokens_of-the_term}
use Rattle.mufom_expr.proofs.ExprLemmas.{tokens_of_expr-tree, last_expr, small_tree}
use Rattle.mufom_expr.proofs.postfix.Postfix.to_expr.Goals as goal

pub loop-token-preserved : goal.loop-token-preserved
loop-token-preserved c =
    let items = c.as_slice-token-items.result.now in
    let trees = map tree_of_expr (reverse c.loop-token.stack.items) in
    let i = c.loop-token.token-index in
    let here = drop_more items i _ c.loop-token-test.true in
    let Runs : List (Option Tree) → Type 0 = λ ts. IsRunning some_tree items (the_term items) (i + 1) ts in
    subst Runs (sym c.in_ok-grow.ensures.trees) (goes_on some_tree trees_with trees_fit items (the_term items) i trees c.loop-token.invariant _ here)

pub returns-clause-tokens : goal.returns-clause-tokens
returns-clause-tokens c =
    let items = c.as_slice-token-items.result.now in
    let past : drop c.loop-token.token-index items ≡ [] = nil_from_length _
    (omega (arith, length-drop c.loop-token.token-index items, c.loop-token-test.false)) in
    let left = last_expr items (the_term items) c.loop-token.token-index (reverse c.loop-token.stack.items) _ c.pop_expr.result c.loop-token.invariant
    past c.pop_expr.ensures.trees in
    tokens_of_expr-tree c.pop_expr.result (the_term items) left ∙ ap (λ (ts : List Token). tokens_of (the_term ts)) c.as_slice-token-items.ensures
    ∙ ap tokens_of c.self.view_is

pub returns-clause-fits : goal.returns-clause-fits
returns-clause-fits c =
    let items = c.as_slice-token-items.result.now in
    let past : drop c.loop-token.token-index items ≡ [] = nil_from_length _
    (omega (arith, length-drop c.loop-token.token-index items, c.loop-token-test.false)) in
    let left = last_expr items (the_term items) c.loop-token.token-index (reverse c.loop-token.stack.items) _ c.pop_expr.result c.loop-token.invariant
    past c.pop_expr.ensures.trees in
    let same : items ≡ tokens_held c.self.inside.tokens = c.as_slice-token-items.ensures in
    let few : length (tokens_of (the_term items)) ≤ 255 = rw same
    (subst (λ ts. length ts ≤ 255) (tokens_of-the_term _ c.self.invariant.0) c.self.invariant.1) in
    small_tree c.pop_expr.result (the_term items) left few
