-- An expression as a tree (IEEE Std 695, expressions), which is the meaning of a postfix expression. The constructors fix the
-- number of operands of each function, so every tree is well formed.
use Rattle.std.specs.Prelude.{ℕ, ◌<◌, ◌^◌, List, [], ◌∷◌, ◌++◌}
use Rattle.mufom_expr.specs.declared.token.Letter.{Letter}
use Rattle.mufom_expr.specs.declared.token.Function.{Function}
use Rattle.mufom_expr.specs.declared.token.Function.TheVariants as functions
use Rattle.mufom_expr.specs.declared.token.Token.{Token}
use Rattle.mufom_expr.specs.declared.token.Token.TheVariants.{Number, Var, Fun}

-- the functions of one operand
pub data OneOperand : Type 0 where
  absolute : OneOperand
  negated : OneOperand

-- the functions of two operands
pub data TwoOperands : Type 0 where
  plus : TwoOperands
  minus : TwoOperands
  divided : TwoOperands
  times : TwoOperands
  larger : TwoOperands
  smaller : TwoOperands
  modulo : TwoOperands
  is_less : TwoOperands
  is_greater : TwoOperands
  is_equal : TwoOperands
  is_unequal : TwoOperands
  and_bits : TwoOperands
  or_bits : TwoOperands
  xor_bits : TwoOperands

-- a number, a variable (a letter and a position), or a function of one tree or of two
pub data Tree : Type 0 where
  number : (value : ℕ) → Tree
  variable : (letter : Letter) → (place : ℕ) → Tree
  one : (f : OneOperand) → (a : Tree) → Tree
  two : (f : TwoOperands) → (a b : Tree) → Tree

-- the function of one operand, as the function of a token
abbrev pub function_of_one : OneOperand → Function
function_of_one absolute = functions.Abs
function_of_one negated = functions.Neg

-- the function of two operands, as the function of a token
abbrev pub function_of_two : TwoOperands → Function
function_of_two plus = functions.Plus
function_of_two minus = functions.Minus
function_of_two divided = functions.Divide
function_of_two times = functions.Times
function_of_two larger = functions.Max
function_of_two smaller = functions.Min
function_of_two modulo = functions.Mod
function_of_two is_less = functions.Less
function_of_two is_greater = functions.Greater
function_of_two is_equal = functions.Equal
function_of_two is_unequal = functions.Unequal
function_of_two and_bits = functions.And
function_of_two or_bits = functions.Or
function_of_two xor_bits = functions.Xor

-- the tokens of a tree, operands before functions
abbrev pub tokens_of : Tree → List Token
tokens_of (number n) = Number n ∷ []
tokens_of (variable l p) = Var l p ∷ []
tokens_of (one f a) = tokens_of a ++ Fun (function_of_one f) ∷ []
tokens_of (two f a b) = (tokens_of a ++ tokens_of b) ++ Fun (function_of_two f) ∷ []

-- a token that the code can represent: a number below 2^64, a variable whose number is below 2^32, or a function
abbrev pub IsInRange : Token → Type 0
IsInRange (Number n) = n < 2 ^ 64
IsInRange (Var l p) = p < 2 ^ 32
IsInRange (Fun f) = Unit {0}
