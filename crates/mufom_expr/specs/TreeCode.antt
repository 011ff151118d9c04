-- The code of a tree: its tokens, encoded as numbers, by which a proof can tell two trees apart.
use Rattle.std.specs.Prelude.{◌≡◌, ℕ, ◌==◌, List, [], ◌∷◌, ◌++◌, Some, if◌then◌else◌, refl, option_and_then}
use Rattle.std.proofs.Common.{sym, ◌∙◌, ap, append_assoc, append-nil}
use Rattle.std.specs.Coded.{Coded, code_by, coded×, coded_list, coded_ℕ}
use Rattle.mufom_expr.specs.declared.token.Letter.{Letter}
use Rattle.mufom_expr.specs.declared.token.Letter.TheVariants as letters
use Rattle.mufom_expr.specs.declared.token.Function.{Function}
use Rattle.mufom_expr.specs.declared.token.Function.TheVariants as functions
use Rattle.mufom_expr.specs.declared.token.Token.{Token}
use Rattle.mufom_expr.specs.declared.token.Token.TheVariants.{Number, Var, Fun}
use Rattle.mufom_expr.specs.Tree.{Tree, number, variable, one, two, OneOperand, absolute, negated, TwoOperands, plus, minus, divided, times, larger}
use Rattle.mufom_expr.specs.Tree.{smaller, modulo, is_less, is_greater, is_equal, is_unequal, and_bits, or_bits, xor_bits, tokens_of, function_of_one}
use Rattle.mufom_expr.specs.Tree.{function_of_two}
use Rattle.mufom_expr.specs.Terms.{terms_after, after_function, the_term, the_only}

-- a letter by its number
abbrev number_of_letter : Letter → ℕ
number_of_letter letters.I = 0
number_of_letter letters.L = 1
number_of_letter letters.P = 2
number_of_letter letters.R = 3
number_of_letter letters.S = 4
number_of_letter letters.X = 5

-- the letter of a number
abbrev letter_of : ℕ → Letter
letter_of n = if n == 0 then letters.I else (if n == 1 then letters.L
    else (if n == 2 then letters.P else (if n == 3 then letters.R else (if n == 4 then letters.S else (letters.X)))))

letter_of-number : (l : Letter) → letter_of (number_of_letter l) ≡ l
letter_of-number letters.I = refl
letter_of-number letters.L = refl
letter_of-number letters.P = refl
letter_of-number letters.R = refl
letter_of-number letters.S = refl
letter_of-number letters.X = refl

-- a function by its number
abbrev number_of_function : Function → ℕ
number_of_function functions.Abs = 0
number_of_function functions.Neg = 1
number_of_function functions.Plus = 2
number_of_function functions.Minus = 3
number_of_function functions.Divide = 4
number_of_function functions.Times = 5
number_of_function functions.Max = 6
number_of_function functions.Min = 7
number_of_function functions.Mod = 8
number_of_function functions.Less = 9
number_of_function functions.Greater = 10
number_of_function functions.Equal = 11
number_of_function functions.Unequal = 12
number_of_function functions.And = 13
number_of_function functions.Or = 14
number_of_function functions.Xor = 15

-- the function of a number
abbrev function_of : ℕ → Function
function_of n = if n == 0 then functions.Abs else (if n == 1 then functions.Neg
    else (if n == 2 then functions.Plus else (if n == 3 then functions.Minus
    else (if n == 4 then functions.Divide else (if n == 5 then functions.Times
    else (if n == 6 then functions.Max else (if n == 7 then functions.Min
    else (if n == 8 then functions.Mod else (if n == 9 then functions.Less
    else (if n == 10 then functions.Greater else (if n == 11 then functions.Equal
    else (if n == 12 then functions.Unequal else (if n == 13 then functions.And else (if n == 14 then functions.Or else (functions.Xor)))))))))))))))

function_of-number : (f : Function) → function_of (number_of_function f) ≡ f
function_of-number functions.Abs = refl
function_of-number functions.Neg = refl
function_of-number functions.Plus = refl
function_of-number functions.Minus = refl
function_of-number functions.Divide = refl
function_of-number functions.Times = refl
function_of-number functions.Max = refl
function_of-number functions.Min = refl
function_of-number functions.Mod = refl
function_of-number functions.Less = refl
function_of-number functions.Greater = refl
function_of-number functions.Equal = refl
function_of-number functions.Unequal = refl
function_of-number functions.And = refl
function_of-number functions.Or = refl
function_of-number functions.Xor = refl

-- a token by three numbers
abbrev numbers_of : Token → ℕ × (ℕ × ℕ)
numbers_of (Number n) = (0, (n, 0))
numbers_of (Var l p) = (1, (number_of_letter l, p))
numbers_of (Fun f) = (2, (number_of_function f, 0))

-- the token of three numbers
abbrev token_of : ℕ × (ℕ × ℕ) → Token
token_of c = if c.0 == 0 then Number c.1.0 else (if c.0 == 1 then Var (letter_of c.1.0) c.1.1 else Fun (function_of c.1.0))

pub token_of-numbers : (t : Token) → token_of (numbers_of t) ≡ t
token_of-numbers (Number n) = refl
token_of-numbers (Var l p) = ap (λ m. Var m p) (letter_of-number l)
token_of-numbers (Fun f) = ap Fun (function_of-number f)

-- the code of tokens
abbrev pub token_code : Coded Token
token_code = code_by (ℕ × (ℕ × ℕ)) (coded× coded_ℕ (coded× coded_ℕ coded_ℕ)) numbers_of token_of token_of-numbers

-- processing the tokens of a tree pushes the tree onto the stack
after_function-one : (f : OneOperand) (a : Tree) (s : List Tree) → after_function (function_of_one f) (a ∷ s) ≡ Some (one f a ∷ s)
after_function-one absolute a s = refl
after_function-one negated a s = refl

after_function-two : (f : TwoOperands) (a b : Tree) (s : List Tree) → after_function (function_of_two f) (b ∷ a ∷ s) ≡ Some (two f a b ∷ s)
after_function-two plus a b s = refl
after_function-two minus a b s = refl
after_function-two divided a b s = refl
after_function-two times a b s = refl
after_function-two larger a b s = refl
after_function-two smaller a b s = refl
after_function-two modulo a b s = refl
after_function-two is_less a b s = refl
after_function-two is_greater a b s = refl
after_function-two is_equal a b s = refl
after_function-two is_unequal a b s = refl
after_function-two and_bits a b s = refl
after_function-two or_bits a b s = refl
after_function-two xor_bits a b s = refl

pub terms_after-tokens_of : (t : Tree) (rest : List Token) (s : List Tree) → terms_after (tokens_of t ++ rest) s ≡ terms_after rest (t ∷ s)
terms_after-tokens_of (number n) rest s = refl
terms_after-tokens_of (variable l p) rest s = refl
terms_after-tokens_of (one f a) rest s =
    ap (λ ts. terms_after ts s) (append_assoc (tokens_of a) (Fun (function_of_one f) ∷ []) rest)
    ∙ terms_after-tokens_of a (Fun (function_of_one f) ∷ rest) s
    ∙ ap (option_and_then (terms_after rest)) (after_function-one f a s)
terms_after-tokens_of (two f a b) rest s =
    ap (λ ts. terms_after ts s) (append_assoc (tokens_of a ++ tokens_of b) (Fun (function_of_two f) ∷ []) rest
    ∙ append_assoc (tokens_of a) (tokens_of b) (Fun (function_of_two f) ∷ rest))
    ∙ terms_after-tokens_of a (tokens_of b ++ Fun (function_of_two f) ∷ rest) s
    ∙ terms_after-tokens_of b (Fun (function_of_two f) ∷ rest) (a ∷ s)
    ∙ ap (option_and_then (terms_after rest)) (after_function-two f a b s)

pub the_term-tokens_of : (t : Tree) → the_term (tokens_of t) ≡ t
the_term-tokens_of t = ap (λ ts. the_only (terms_after ts [])) (sym (append-nil (tokens_of t))) ∙ ap the_only (terms_after-tokens_of t [] [])

-- the code of trees
abbrev pub tree_code : Coded Tree
tree_code = code_by (List Token) (coded_list token_code) tokens_of the_term the_term-tokens_of
