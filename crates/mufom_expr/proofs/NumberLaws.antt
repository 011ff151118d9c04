-- The number that an expression is, from its tokens.
use Rattle.std.proofs.Common.{◌≡◌, List, [], ◌∷◌, ◌++◌, refl}
use Rattle.mufom_expr.specs.declared.token.Function.{Function}
use Rattle.mufom_expr.specs.declared.token.Token.{Token}
use Rattle.mufom_expr.specs.declared.token.Token.TheVariants.{Number, Var, Fun}
use Rattle.mufom_expr.specs.Tree.{Tree, number, variable, one, two, tokens_of, function_of_one, function_of_two}
use Rattle.mufom_expr.specs.Numbers.{number_in, number_of}

applied : (tokens : List Token) (f : Function) → number_in (tokens ++ Fun f ∷ []) ≡ 0
applied [] f = refl
applied (Number n ∷ []) f = refl
applied (Number n ∷ (t ∷ tokens)) f = refl
applied (Var l p ∷ tokens) f = refl
applied (Fun g ∷ tokens) f = refl

pub number-by_tokens : (t : Tree) → number_in (tokens_of t) ≡ number_of t
number-by_tokens (number n) = refl
number-by_tokens (variable l p) = refl
number-by_tokens (one f a) = applied (tokens_of a) (function_of_one f)
number-by_tokens (two f a b) = applied (tokens_of a ++ tokens_of b) (function_of_two f)
