-- Expressions that are a single number, as those of a located module are.
use Rattle.std.specs.Prelude.{ℕ, List, [], ◌∷◌}
use Rattle.mufom_expr.specs.declared.token.Token.{Token}
use Rattle.mufom_expr.specs.declared.token.Token.TheVariants.{Number}
use Rattle.mufom_expr.specs.Tree.{Tree, number, variable, one, two}

-- the value of an expression that is a single number; 0 for any other expression
abbrev pub number_of : Tree → ℕ
number_of (number n) = n
number_of (variable l p) = 0
number_of (one f a) = 0
number_of (two f a b) = 0

-- the value of a single number token; 0 for any other tokens
abbrev pub number_in : List Token → ℕ
number_in (Number n ∷ []) = n
number_in _ = 0
