-- The value of an expression at a program counter, given the values of all other variables.
use Rattle.std.specs.Prelude.{ℕ, ◌^◌, Option, Some}
use Rattle.mufom_expr.specs.declared.token.Letter.TheVariants as letters
use Rattle.mufom_expr.specs.Tree.{Tree}
use Rattle.mufom_expr.specs.Value.{Environment, value_at}

-- the environment in which P is the program counter and every other variable has its value in another environment
abbrev pub at_counter : Environment → ℕ → Environment
at_counter environment counter letters.P n = Some counter
at_counter environment counter letters.R n = environment letters.R n
at_counter environment counter letters.L n = environment letters.L n
at_counter environment counter letters.S n = environment letters.S n
at_counter environment counter letters.I n = environment letters.I n
at_counter environment counter letters.X n = environment letters.X n

-- the value of an expression modulo 2 to the power of a width, at a program counter
abbrev pub value_with : Environment → ℕ → ℕ → Tree → Option ℕ
value_with environment width counter t = value_at (2 ^ width) (at_counter environment counter) t
