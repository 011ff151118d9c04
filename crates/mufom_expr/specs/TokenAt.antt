-- Reading the token at the start of an input, and the tokens of a whole expression.
use Rattle.std.specs.Prelude.{ℕ, zero, suc, ◌+◌, ◌^◌, Bool, List, [], ◌∷◌, drop, Option, Some, None, nat_lt, nat_le, ◌&&◌, ◌||◌, if◌then◌else◌}
use Rattle.mufom_numbers.specs.declared.codes.TheConstants.{FIRST_FUNCTION, LAST_FUNCTION, LAST_NUMBER, LETTER_A, LETTER_Z}
use Rattle.mufom_numbers.specs.declared.reason.Reason.TheVariants.{BadNumber, UnsupportedFunction, UnsupportedVariable}
use Rattle.mufom_numbers.specs.declared.taken.Taken.{Taken}
use Rattle.mufom_numbers.specs.declared.taken.Taken.TheVariants.{Got, More, Bad}
use Rattle.mufom_numbers.specs.Spelling.{number_at}
use Rattle.mufom_expr.specs.declared.token.Letter.{Letter}
use Rattle.mufom_expr.specs.declared.token.Function.{Function}
use Rattle.mufom_expr.specs.declared.token.Token.{Token}
use Rattle.mufom_expr.specs.declared.token.Token.TheVariants.{Number, Var, Fun}
use Rattle.mufom_expr.specs.Codes.{letter_of, function_of}

-- a byte in the range from low to high
abbrev pub is_from_to : ℕ → ℕ → ℕ → Bool
is_from_to low high b = nat_le low b && nat_le b high

-- a byte that begins a number: 00 to 88
abbrev pub begins_number : ℕ → Bool
begins_number b = nat_le b LAST_NUMBER

-- a byte that begins a number, a function or a letter, including those that the profile leaves out
abbrev pub begins_token : ℕ → Bool
begins_token b = begins_number b || (is_from_to FIRST_FUNCTION LAST_FUNCTION b || is_from_to LETTER_A LETTER_Z b)

-- a number that was read, as a token
abbrev pub number_token : Taken ℕ → Taken Token
number_token (Got n used) = Got (Number n) used
number_token More = More
number_token (Bad offset reason) = Bad offset reason

-- a function as a token, or the error for one that the profile leaves out
abbrev pub function_token : Option Function → Taken Token
function_token (Some f) = Got (Fun f) 1
function_token None = Bad 0 UnsupportedFunction

-- a letter and the number after it as a token; the number is an index, below 2^32
abbrev pub variable_token : Option Letter → Taken ℕ → Taken Token
variable_token None index = Bad 0 UnsupportedVariable
variable_token (Some letter) (Got n used) = if nat_lt n (2 ^ 32) then Got (Var letter n) (used + 1) else Bad 1 BadNumber
variable_token (Some letter) More = More
variable_token (Some letter) (Bad offset reason) = Bad 1 BadNumber

-- the variable with a letter and the index that was read
abbrev pub with_letter : Letter → Taken ℕ → Taken Token
with_letter letter (Got n used) = Got (Var letter n) used
with_letter letter More = More
with_letter letter (Bad offset reason) = Bad offset reason

-- reads the token at the start of the input: the token and the length of its spelling in bytes, More, or an error
abbrev pub token_at : List ℕ → Taken Token
token_at [] = More
token_at (b ∷ bytes) = if begins_number b then number_token (number_at (b ∷ bytes))
    else (if is_from_to FIRST_FUNCTION LAST_FUNCTION b then function_token (function_of b)
    else variable_token (letter_of b) (number_at bytes))

-- the token that was read and the tokens after it; none if no token was read
abbrev pub first_token : Taken Token → (ℕ → List Token) → List Token
first_token (Got token used) after = token ∷ after used
first_token _ after = []

-- the tokens at the start of the bytes, at most k of them, up to the first that can't be read
abbrev pub tokens_at : ℕ → List ℕ → List Token
tokens_at zero bytes = []
tokens_at (suc k) bytes = first_token (token_at bytes) (λ used. tokens_at k (drop used bytes))

-- the tokens that the bytes of an expression spell
abbrev pub tokens_in : List ℕ → List Token
tokens_in bytes = tokens_at 255 bytes
