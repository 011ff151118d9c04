-- Renaming the variables of tokens.
use Rattle.std.specs.Prelude.{ℕ, List, map}
use Rattle.mufom_expr.specs.declared.token.Letter.{Letter}
use Rattle.mufom_expr.specs.declared.token.Token.{Token}
use Rattle.mufom_expr.specs.declared.token.Token.TheVariants.{Number, Var, Fun}

-- the token, or another variable in its place if it is a variable
abbrev pub renamed_token : (Letter → ℕ → Letter × ℕ) → Token → Token
renamed_token rename (Number n) = Number n
renamed_token rename (Var letter place) = Var (rename letter place).0 (rename letter place).1
renamed_token rename (Fun f) = Fun f

-- all tokens, each with its variable replaced
abbrev pub renamed_tokens : (Letter → ℕ → Letter × ℕ) → List Token → List Token
renamed_tokens rename tokens = map (renamed_token rename) tokens
