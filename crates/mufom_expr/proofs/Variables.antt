-- The variables of tokens are those of their tree.
use Rattle.std.proofs.Common.{◌≡◌, List, [], ◌∷◌, ◌++◌, refl, ◌∙◌, ap, append-nil}
use Rattle.mufom_expr.specs.declared.token.Token.{Token}
use Rattle.mufom_expr.specs.declared.token.Token.TheVariants.{Number, Var, Fun}
use Rattle.mufom_expr.specs.Tree.{Tree, number, variable, one, two, tokens_of, function_of_one, function_of_two}
use Rattle.mufom_expr.specs.Value.{variables_of}
use Rattle.mufom_expr.specs.Mentions.{variables_in}

variables_in-append : (xs ys : List Token) → variables_in (xs ++ ys) ≡ variables_in xs ++ variables_in ys
variables_in-append [] ys = refl
variables_in-append (Number n ∷ xs) ys = variables_in-append xs ys
variables_in-append (Var l p ∷ xs) ys = ap (λ vs. (l, p) ∷ vs) (variables_in-append xs ys)
variables_in-append (Fun f ∷ xs) ys = variables_in-append xs ys

pub variables_in-tokens_of : (t : Tree) → variables_in (tokens_of t) ≡ variables_of t
variables_in-tokens_of (number n) = refl
variables_in-tokens_of (variable l p) = refl
variables_in-tokens_of (one f a) =
    variables_in-append (tokens_of a) (Fun (function_of_one f) ∷ []) ∙ append-nil (variables_in (tokens_of a)) ∙ variables_in-tokens_of a
variables_in-tokens_of (two f a b) =
    let left = variables_in-tokens_of a in
    let right = variables_in-tokens_of b in
    variables_in-append (tokens_of a ++ tokens_of b) (Fun (function_of_two f) ∷ [])
    ∙ append-nil (variables_in (tokens_of a ++ tokens_of b))
    ∙ variables_in-append (tokens_of a) (tokens_of b)
    ∙ (λ i. left i ++ right i)
