-- The tree (`Tree`) and the tokens of an `Expr`, the expression tree of the code.
use Rattle.std.specs.Prelude.{ℕ, zero, suc, ◌≤◌, List, [], ◌∷◌, ◌++◌, length, Option, Some, None, IsSomeAnd}
use Rattle.mufom_expr.specs.declared.token.Function.{Function}
use Rattle.mufom_expr.specs.declared.token.Function.TheVariants as functions
use Rattle.mufom_expr.specs.declared.token.Token.{Token}
use Rattle.mufom_expr.specs.declared.token.Token.TheVariants as tokens
use Rattle.mufom_expr.specs.declared.expr.Expr.{Expr, Number, Var, One', Two'}
use Rattle.mufom_expr.specs.Codes.{operands}
use Rattle.mufom_expr.specs.Tree.{Tree, number, variable, one, two, OneOperand, absolute, negated, TwoOperands, plus, minus, divided, times, larger}
use Rattle.mufom_expr.specs.Tree.{smaller, modulo, is_less, is_greater, is_equal, is_unequal, and_bits, or_bits, xor_bits, tokens_of}

-- the matching function of one operand, or None if the function takes two
abbrev pub one_operand : Function → Option OneOperand
one_operand functions.Abs = Some absolute
one_operand functions.Neg = Some negated
one_operand _ = None

-- the matching function of two operands, or None if the function takes one
abbrev pub two_operands : Function → Option TwoOperands
two_operands functions.Plus = Some plus
two_operands functions.Minus = Some minus
two_operands functions.Divide = Some divided
two_operands functions.Times = Some times
two_operands functions.Max = Some larger
two_operands functions.Min = Some smaller
two_operands functions.Mod = Some modulo
two_operands functions.Less = Some is_less
two_operands functions.Greater = Some is_greater
two_operands functions.Equal = Some is_equal
two_operands functions.Unequal = Some is_unequal
two_operands functions.And = Some and_bits
two_operands functions.Or = Some or_bits
two_operands functions.Xor = Some xor_bits
two_operands _ = None

-- the tree of a function and its operand, or None if either is missing
abbrev pub over_one : Option OneOperand → Option Tree → Option Tree
over_one (Some f) (Some a) = Some (one f a)
over_one _ _ = None

-- the tree of a function and its two operands, or None if any of the three is missing
abbrev pub over_two : Option TwoOperands → Option Tree → Option Tree → Option Tree
over_two (Some f) (Some a) (Some b) = Some (two f a b)
over_two _ _ _ = None

-- the tree of an expression, or None if a function in it has the wrong number of operands
abbrev pub tree_of_expr : Expr → Option Tree
tree_of_expr (Number n) = Some (number n)
tree_of_expr (Var letter place) = Some (variable letter place)
tree_of_expr (One' f p a) = over_one (one_operand f) (tree_of_expr a)
tree_of_expr (Two' f p a q b) = over_two (two_operands f) (tree_of_expr a) (tree_of_expr b)

-- the tokens of an expression, operands before functions
abbrev pub tokens_of_expr : Expr → List Token
tokens_of_expr (Number n) = tokens.Number n ∷ []
tokens_of_expr (Var letter place) = tokens.Var letter place ∷ []
tokens_of_expr (One' f p a) = tokens_of_expr a ++ tokens.Fun f ∷ []
tokens_of_expr (Two' f p a q b) = (tokens_of_expr a ++ tokens_of_expr b) ++ tokens.Fun f ∷ []

-- Each function has as many operands as it takes, and there are at most 255 tokens.
abbrev pub IsExpression : Expr → Type 0
IsExpression expr = IsSomeAnd (tree_of_expr expr) (λ t. length (tokens_of t) ≤ 255)

-- ---- the stack of trees while the tokens of an expression are processed, the topmost tree first

-- the stack of trees after a function of one or two operands
abbrev pub trees_applied : ℕ → Function → List (Option Tree) → List (Option Tree)
trees_applied (suc zero) f (a ∷ trees) = over_one (one_operand f) a ∷ trees
trees_applied (suc (suc zero)) f (b ∷ a ∷ trees) = over_two (two_operands f) a b ∷ trees
trees_applied _ f trees = trees

-- the stack of trees after a token
abbrev pub trees_with : List (Option Tree) → Token → List (Option Tree)
trees_with trees (tokens.Number n) = Some (number n) ∷ trees
trees_with trees (tokens.Var letter place) = Some (variable letter place) ∷ trees
trees_with trees (tokens.Fun f) = trees_applied (operands f) f trees
