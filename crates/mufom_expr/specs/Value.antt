-- The value of an expression (IEEE Std 695, expressions, in this project's profile): a residue modulo a power of two,
-- or none. Quotients, remainders, MAX, MIN and comparisons treat residues as unsigned numbers.
use Rattle.std.specs.Prelude.{◌≡◌, ◌⊎◌, ℕ, zero, suc, ◌+◌, ◌-◌, ◌*◌, ◌/◌, ◌%◌, min, max, List, [], ◌∷◌, ◌++◌, Option, Some, None, option_map, Bool}
use Rattle.std.specs.Prelude.{true, false, ◌||◌, ◌==◌, nat_lt, bit_and, bit_or, bit_xor, if◌then◌else◌}
use Rattle.mufom_expr.specs.declared.token.Letter.{Letter}
use Rattle.mufom_expr.specs.Tree.{Tree, number, variable, one, two, OneOperand, absolute, negated, TwoOperands, plus, minus, divided, times, larger}
use Rattle.mufom_expr.specs.Tree.{smaller, modulo, is_less, is_greater, is_equal, is_unequal, and_bits, or_bits, xor_bits}

-- maps each variable to its value, or to None if it has none
abbrev pub Environment : Type 0
Environment = Letter → ℕ → Option ℕ

-- the residue of minus a, for a residue a
abbrev pub minus_modulo : ℕ → ℕ → ℕ
minus_modulo m a = (m - a) % m

-- a function of one residue modulo m: the magnitude of its two's complement reading, or its negation
abbrev pub one_value : ℕ → OneOperand → ℕ → ℕ
one_value m absolute a = if nat_lt (a + a) m then a else minus_modulo m a
one_value m negated a = minus_modulo m a

-- 1 if a test is true, 0 otherwise
abbrev pub bit_of : Bool → ℕ
bit_of b = if b then 1 else 0

-- the value of a quotient or a remainder: None if the divisor is 0
abbrev pub unless_zero : ℕ → ℕ → Option ℕ
unless_zero zero value = None
unless_zero (suc divisor) value = Some value

-- a function of two residues modulo m
abbrev pub two_value : ℕ → TwoOperands → ℕ → ℕ → Option ℕ
two_value m plus a b = Some ((a + b) % m)
two_value m minus a b = Some ((a + (m - b)) % m)
two_value m divided a b = unless_zero b (a / b)
two_value m times a b = Some ((a * b) % m)
two_value m larger a b = Some (max a b)
two_value m smaller a b = Some (min a b)
two_value m modulo a b = unless_zero b (a % b)
two_value m is_less a b = Some (bit_of (nat_lt a b))
two_value m is_greater a b = Some (bit_of (nat_lt b a))
two_value m is_equal a b = Some (bit_of (a == b))
two_value m is_unequal a b = Some (if a == b then 0 else 1)
two_value m and_bits a b = Some (bit_and a b)
two_value m or_bits a b = Some (bit_or a b)
two_value m xor_bits a b = Some (bit_xor a b)

-- the function of both operands, or None if one of them has no value
abbrev pub both : (ℕ → ℕ → Option ℕ) → Option ℕ → Option ℕ → Option ℕ
both f (Some a) (Some b) = f a b
both f (Some a) None = None
both f None b = None

-- The value of a tree modulo m, in an environment that gives each variable its value. There is none if a variable of
-- the tree has no value, or if a divisor is 0.
abbrev pub value_at : ℕ → Environment → Tree → Option ℕ
value_at m env (number n) = Some (n % m)
value_at m env (variable letter place) = option_map (λ v. v % m) (env letter place)
value_at m env (one f a) = option_map (one_value m f) (value_at m env a)
value_at m env (two f a b) = both (two_value m f) (value_at m env a) (value_at m env b)

-- the variables of a tree, from left to right
abbrev pub variables_of : Tree → List (Letter × ℕ)
variables_of (number n) = []
variables_of (variable letter place) = (letter, place) ∷ []
variables_of (one f a) = variables_of a
variables_of (two f a b) = variables_of a ++ variables_of b

-- the tree with each variable replaced by another
abbrev pub with_variables : (Letter → ℕ → Letter × ℕ) → Tree → Tree
with_variables rename (number n) = number n
with_variables rename (variable letter place) = let v = rename letter place in variable v.0 v.1
with_variables rename (one f a) = one f (with_variables rename a)
with_variables rename (two f a b) = two f (with_variables rename a) (with_variables rename b)

-- there is a value, and it is 0
abbrev pub is_zero : Option ℕ → Bool
is_zero (Some zero) = true
is_zero (Some (suc n)) = false
is_zero None = false

-- the function is a quotient or a remainder
abbrev pub is_division : TwoOperands → Bool
is_division divided = true
is_division modulo = true
is_division _ = false

-- a divisor somewhere in the tree has the value 0; the function gives the value of each subtree
abbrev pub divides_by_zero : (Tree → Option ℕ) → Tree → Bool
divides_by_zero worth (number n) = false
divides_by_zero worth (variable letter place) = false
divides_by_zero worth (one f a) = divides_by_zero worth a
divides_by_zero worth (two f a b) =
    divides_by_zero worth a || divides_by_zero worth b || (if is_division f then is_zero (worth b) else false)

-- a variable of the tree has no value
abbrev pub LacksAValue : Environment → Tree → Type 0
LacksAValue env (number n) = ⊥
LacksAValue env (variable letter place) = env letter place ≡ None
LacksAValue env (one f a) = LacksAValue env a
LacksAValue env (two f a b) = LacksAValue env a ⊎ LacksAValue env b

-- the environment that gives each variable the value of the variable that replaces it
abbrev pub value_through : (Letter → ℕ → Letter × ℕ) → Environment → Environment
value_through rename env letter place = let v = rename letter place in env v.0 v.1
