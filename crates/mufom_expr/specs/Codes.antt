-- The bytes that encode letters and functions (IEEE Std 695, expressions), and the number of operands of each function. The
-- letters, A5 and A6 come from the public `ieee.h`; the codes of the other functions belong to this project's profile.
use Rattle.std.specs.Prelude.{ℕ, List, [], ◌∷◌, Option, ◌==◌}
use Rattle.std.specs.List.{find}
use Rattle.mufom_numbers.specs.declared.codes.TheConstants.{FUNCTION_ABS, FUNCTION_AND, FUNCTION_DIVIDE, FUNCTION_EQUAL, FUNCTION_GREATER}
use Rattle.mufom_numbers.specs.declared.codes.TheConstants.{FUNCTION_LESS, FUNCTION_MAX, FUNCTION_MIN, FUNCTION_MINUS, FUNCTION_MOD, FUNCTION_NEG}
use Rattle.mufom_numbers.specs.declared.codes.TheConstants.{FUNCTION_OR, FUNCTION_PLUS, FUNCTION_TIMES, FUNCTION_UNEQUAL, FUNCTION_XOR, LETTER_I}
use Rattle.mufom_numbers.specs.declared.codes.TheConstants.{LETTER_L, LETTER_P, LETTER_R, LETTER_S, LETTER_X}
use Rattle.mufom_expr.specs.declared.token.Letter.{Letter}
use Rattle.mufom_expr.specs.declared.token.Letter.TheVariants.{I, L, P, R, S, X}
use Rattle.mufom_expr.specs.declared.token.Token.{Token}
use Rattle.mufom_expr.specs.declared.token.Token.TheVariants.{Fun}
use Rattle.mufom_expr.specs.declared.token.Function.{Function}
use Rattle.mufom_expr.specs.declared.token.Function.TheVariants.{Abs, Neg, Plus, Minus, Divide, Times, Max, Min, Mod, Less, Greater, Equal, Unequal}
use Rattle.mufom_expr.specs.declared.token.Function.TheVariants.{And, Or, Xor}

-- the byte of a letter
abbrev pub letter_byte : Letter → ℕ
letter_byte I = LETTER_I
letter_byte L = LETTER_L
letter_byte P = LETTER_P
letter_byte R = LETTER_R
letter_byte S = LETTER_S
letter_byte X = LETTER_X

-- the byte of a function
abbrev pub function_byte : Function → ℕ
function_byte Abs = FUNCTION_ABS
function_byte Neg = FUNCTION_NEG
function_byte Plus = FUNCTION_PLUS
function_byte Minus = FUNCTION_MINUS
function_byte Divide = FUNCTION_DIVIDE
function_byte Times = FUNCTION_TIMES
function_byte Max = FUNCTION_MAX
function_byte Min = FUNCTION_MIN
function_byte Mod = FUNCTION_MOD
function_byte Less = FUNCTION_LESS
function_byte Greater = FUNCTION_GREATER
function_byte Equal = FUNCTION_EQUAL
function_byte Unequal = FUNCTION_UNEQUAL
function_byte And = FUNCTION_AND
function_byte Or = FUNCTION_OR
function_byte Xor = FUNCTION_XOR

-- the letters that a reader accepts
abbrev pub all_letters : List Letter
all_letters = I ∷ L ∷ P ∷ R ∷ S ∷ X ∷ []

-- the functions that a reader accepts
abbrev pub all_functions : List Function
all_functions = Abs ∷ Neg ∷ Plus ∷ Minus ∷ Divide ∷ Times ∷ Max ∷ Min ∷ Mod ∷ Less ∷ Greater ∷ Equal ∷ Unequal ∷ And ∷ Or ∷ Xor ∷ []

-- the letter that a byte encodes, if any
abbrev pub letter_of : ℕ → Option Letter
letter_of b = find (λ letter. b == letter_byte letter) all_letters

-- the function that a byte encodes, if any
abbrev pub function_of : ℕ → Option Function
function_of b = find (λ f. b == function_byte f) all_functions

-- the number of operands of a function
abbrev pub operands : Function → ℕ
operands Abs = 1
operands Neg = 1
operands _ = 2

-- the number of operands of a token: 0 unless it is a function
abbrev pub operands_of : Token → ℕ
operands_of (Fun f) = operands f
operands_of _ = 0
