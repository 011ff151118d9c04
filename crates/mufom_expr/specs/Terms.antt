-- The stack of terms after tokens in postfix order.
use Rattle.std.specs.Prelude.{◌≡◌, ℕ, ◌<◌, List, [], ◌∷◌, length, Option, Some, None, option_map, option_and_then}
use Rattle.mufom_expr.specs.declared.token.Function.{Function}
use Rattle.mufom_expr.specs.declared.token.Function.TheVariants as functions
use Rattle.mufom_expr.specs.declared.token.Token.{Token}
use Rattle.mufom_expr.specs.declared.token.Token.TheVariants.{Number, Var, Fun}
use Rattle.mufom_expr.specs.Codes.{operands_of}
use Rattle.mufom_expr.specs.Tree.{Tree, number, variable, one, two, OneOperand, absolute, negated, TwoOperands, plus, minus, divided, times, larger}
use Rattle.mufom_expr.specs.Tree.{smaller, modulo, is_less, is_greater, is_equal, is_unequal, and_bits, or_bits, xor_bits}

-- the stack after a function of one operand, the topmost term first, or None if there are too few terms
abbrev pub on_one : OneOperand → List Tree → Option (List Tree)
on_one f [] = None
on_one f (a ∷ terms) = Some (one f a ∷ terms)

-- the same after a function of two operands; the topmost term is its second operand
abbrev pub on_two : TwoOperands → List Tree → Option (List Tree)
on_two f [] = None
on_two f (b ∷ []) = None
on_two f (b ∷ a ∷ terms) = Some (two f a b ∷ terms)

-- the terms after a function
abbrev pub after_function : Function → List Tree → Option (List Tree)
after_function functions.Abs terms = on_one absolute terms
after_function functions.Neg terms = on_one negated terms
after_function functions.Plus terms = on_two plus terms
after_function functions.Minus terms = on_two minus terms
after_function functions.Divide terms = on_two divided terms
after_function functions.Times terms = on_two times terms
after_function functions.Max terms = on_two larger terms
after_function functions.Min terms = on_two smaller terms
after_function functions.Mod terms = on_two modulo terms
after_function functions.Less terms = on_two is_less terms
after_function functions.Greater terms = on_two is_greater terms
after_function functions.Equal terms = on_two is_equal terms
after_function functions.Unequal terms = on_two is_unequal terms
after_function functions.And terms = on_two and_bits terms
after_function functions.Or terms = on_two or_bits terms
after_function functions.Xor terms = on_two xor_bits terms

-- the terms after a token
abbrev pub after_token : Token → List Tree → Option (List Tree)
after_token (Number n) terms = Some (number n ∷ terms)
after_token (Var l p) terms = Some (variable l p ∷ terms)
after_token (Fun f) terms = after_function f terms

-- the terms after all tokens
abbrev pub terms_after : List Token → List Tree → Option (List Tree)
terms_after [] terms = Some terms
terms_after (token ∷ tokens) terms = option_and_then (terms_after tokens) (after_token token terms)

-- the one term that is left; by convention the number 0 if there is not exactly one
abbrev pub the_only : Option (List Tree) → Tree
the_only (Some (t ∷ [])) = t
the_only _ = number 0

-- the tree of tokens that leave one term
abbrev pub the_term : List Token → Tree
the_term tokens = the_only (terms_after tokens [])

-- the tokens leave exactly one term
abbrev pub LeaveOneTerm : List Token → Type 0
LeaveOneTerm tokens = terms_after tokens [] ≡ Some (the_term tokens ∷ [])

-- the number of terms that the tokens leave, or None if a function finds too few
abbrev pub leaves : List Token → Option ℕ
leaves tokens = option_map length (terms_after tokens [])

-- after these tokens, fewer terms are left than the token has operands
abbrev pub FindsTooFew : List Token → Token → Type 0
FindsTooFew tokens token = (n : ℕ) × (leaves tokens ≡ Some n) × (n < operands_of token)

-- more than one term is left
abbrev pub LeavesMoreThanOne : List Token → Type 0
LeavesMoreThanOne tokens = (n : ℕ) × (leaves tokens ≡ Some n) × (1 < n)
