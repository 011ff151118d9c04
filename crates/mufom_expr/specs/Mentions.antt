-- The variables that tokens mention, in order.
use Rattle.std.specs.Prelude.{ℕ, List, [], ◌∷◌}
use Rattle.mufom_expr.specs.declared.token.Letter.{Letter}
use Rattle.mufom_expr.specs.declared.token.Token.{Token}
use Rattle.mufom_expr.specs.declared.token.Token.TheVariants.{Number, Var, Fun}

abbrev pub variables_in : List Token → List (Letter × ℕ)
variables_in [] = []
variables_in (Number n ∷ tokens) = variables_in tokens
variables_in (Var letter place ∷ tokens) = (letter, place) ∷ variables_in tokens
variables_in (Fun f ∷ tokens) = variables_in tokens
