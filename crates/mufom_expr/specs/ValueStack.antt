-- The stack of values while the tokens of an expression are processed, the topmost value first.
use Rattle.std.specs.Prelude.{ℕ, zero, suc, ◌%◌, ◌<◌, List, [], ◌∷◌, Option, Some, None, option_map, slice_get, IfSome, Bool, false}
use Rattle.std.specs.List.{AllByRecursion}
use Rattle.mufom_expr.specs.declared.token.Function.{Function}
use Rattle.mufom_expr.specs.declared.token.Function.TheVariants as functions
use Rattle.mufom_expr.specs.declared.token.Token.{Token}
use Rattle.mufom_expr.specs.declared.token.Token.TheVariants.{Number, Var, Fun}
use Rattle.mufom_expr.specs.Codes.{operands}
use Rattle.mufom_expr.specs.Tree.{absolute, negated, plus, minus, divided, times, larger, smaller, modulo, is_less, is_greater, is_equal, is_unequal}
use Rattle.mufom_expr.specs.Tree.{and_bits, or_bits, xor_bits}
use Rattle.mufom_expr.specs.Value.{Environment, one_value, two_value, both, is_zero}

-- a function of one residue modulo m
abbrev pub unary_value : ℕ → Function → ℕ → ℕ
unary_value m functions.Abs a = one_value m absolute a
unary_value m _ a = one_value m negated a

-- a function of two residues modulo m
abbrev pub binary_value : ℕ → Function → ℕ → ℕ → Option ℕ
binary_value m functions.Plus a b = two_value m plus a b
binary_value m functions.Minus a b = two_value m minus a b
binary_value m functions.Divide a b = two_value m divided a b
binary_value m functions.Times a b = two_value m times a b
binary_value m functions.Max a b = two_value m larger a b
binary_value m functions.Min a b = two_value m smaller a b
binary_value m functions.Mod a b = two_value m modulo a b
binary_value m functions.Less a b = two_value m is_less a b
binary_value m functions.Greater a b = two_value m is_greater a b
binary_value m functions.Equal a b = two_value m is_equal a b
binary_value m functions.Unequal a b = two_value m is_unequal a b
binary_value m functions.And a b = two_value m and_bits a b
binary_value m functions.Or a b = two_value m or_bits a b
binary_value m functions.Xor a b = two_value m xor_bits a b
binary_value m _ a b = None

-- the stack of values after a function of one or two operands, given the stack before it
abbrev pub values_applied : ℕ → ℕ → Function → List (Option ℕ) → List (Option ℕ)
values_applied m (suc zero) f (a ∷ values) = option_map (unary_value m f) a ∷ values
values_applied m (suc (suc zero)) f (b ∷ a ∷ values) = both (binary_value m f) a b ∷ values
values_applied m _ f values = values

-- the stack of values after a token
abbrev pub values_with : ℕ → Environment → List (Option ℕ) → Token → List (Option ℕ)
values_with m env values (Number n) = Some (n % m) ∷ values
values_with m env values (Var letter place) = option_map (λ v. v % m) (env letter place) ∷ values
values_with m env values (Fun f) = values_applied m (operands f) f values

-- the stack of values after the tokens
abbrev pub values_after : ℕ → Environment → List (Option ℕ) → List Token → List (Option ℕ)
values_after m env values [] = values
values_after m env values (token ∷ tokens) = values_after m env (values_with m env values token) tokens

-- each value is a residue modulo m
abbrev pub AreResidues : ℕ → List (Option ℕ) → Type 0
AreResidues m values = AllByRecursion (λ v. IfSome v (λ n. n < m)) values

-- a value is there, and it is 0
abbrev pub zero_there : Option (Option ℕ) → Bool
zero_there None = false
zero_there (Some value) = is_zero value

-- the token is a quotient or a remainder, and its divisor, the topmost of these values, is 0
abbrev pub token_divides_by_zero : List (Option ℕ) → Token → Bool
token_divides_by_zero values (Fun functions.Divide) = zero_there (slice_get values 0)
token_divides_by_zero values (Fun functions.Mod) = zero_there (slice_get values 0)
token_divides_by_zero values _ = false
