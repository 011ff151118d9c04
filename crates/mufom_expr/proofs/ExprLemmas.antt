-- The code's tree of an expression, and its infix form.
use Rattle.std.proofs.Common.{◌≡◌, ℕ, List, [], ◌∷◌, ◌++◌, Option, Some, None, refl, sym, ◌∙◌, ap, append_assoc, map, drop, length, ◌≤◌}
use Rattle.std.specs.Prelude.{IfSome, codes}
use Rattle.mufom_expr.specs.declared.token.Function.{Function}
use Rattle.mufom_expr.specs.declared.token.Function.TheVariants as functions
use Rattle.mufom_expr.specs.declared.token.Token.{Token}
use Rattle.mufom_expr.specs.declared.token.Token.TheVariants.{Fun}
use Rattle.mufom_expr.specs.declared.expr.Expr.{Expr, Number, Var, One', Two'}
use Rattle.mufom_expr.specs.Tree.{Tree, number, variable, tokens_of, one, two, OneOperand, absolute, negated, TwoOperands, plus, minus, divided}
use Rattle.mufom_expr.specs.Tree.{times, larger, smaller, modulo, is_less, is_greater, is_equal, is_unequal, and_bits, or_bits, xor_bits}
use Rattle.mufom_expr.specs.Tree.{function_of_one, function_of_two}
use Rattle.mufom_expr.specs.ExprTree.{one_operand, two_operands, over_one, over_two, tree_of_expr, tokens_of_expr, IsExpression}
use Rattle.mufom_expr.specs.InfixText.{infix_text, opening_text, middle_text}
use Rattle.mufom_expr.proofs.Running.{IsRunning, ends, some_tree}

pub function_of-one_operand : (f : Function) (g : OneOperand) → one_operand f ≡ Some g → function_of_one g ≡ f
function_of-one_operand functions.Abs g e = let same : absolute ≡ g = cc in ap function_of_one (sym same)
function_of-one_operand functions.Neg g e = let same : negated ≡ g = cc in ap function_of_one (sym same)
function_of-one_operand functions.Plus g e = cc
function_of-one_operand functions.Minus g e = cc
function_of-one_operand functions.Divide g e = cc
function_of-one_operand functions.Times g e = cc
function_of-one_operand functions.Max g e = cc
function_of-one_operand functions.Min g e = cc
function_of-one_operand functions.Mod g e = cc
function_of-one_operand functions.Less g e = cc
function_of-one_operand functions.Greater g e = cc
function_of-one_operand functions.Equal g e = cc
function_of-one_operand functions.Unequal g e = cc
function_of-one_operand functions.And g e = cc
function_of-one_operand functions.Or g e = cc
function_of-one_operand functions.Xor g e = cc

pub function_of-two_operands : (f : Function) (g : TwoOperands) → two_operands f ≡ Some g → function_of_two g ≡ f
function_of-two_operands functions.Abs g e = cc
function_of-two_operands functions.Neg g e = cc
function_of-two_operands functions.Plus g e = let same : plus ≡ g = cc in ap function_of_two (sym same)
function_of-two_operands functions.Minus g e = let same : minus ≡ g = cc in ap function_of_two (sym same)
function_of-two_operands functions.Divide g e = let same : divided ≡ g = cc in ap function_of_two (sym same)
function_of-two_operands functions.Times g e = let same : times ≡ g = cc in ap function_of_two (sym same)
function_of-two_operands functions.Max g e = let same : larger ≡ g = cc in ap function_of_two (sym same)
function_of-two_operands functions.Min g e = let same : smaller ≡ g = cc in ap function_of_two (sym same)
function_of-two_operands functions.Mod g e = let same : modulo ≡ g = cc in ap function_of_two (sym same)
function_of-two_operands functions.Less g e = let same : is_less ≡ g = cc in ap function_of_two (sym same)
function_of-two_operands functions.Greater g e = let same : is_greater ≡ g = cc in ap function_of_two (sym same)
function_of-two_operands functions.Equal g e = let same : is_equal ≡ g = cc in ap function_of_two (sym same)
function_of-two_operands functions.Unequal g e = let same : is_unequal ≡ g = cc in ap function_of_two (sym same)
function_of-two_operands functions.And g e = let same : and_bits ≡ g = cc in ap function_of_two (sym same)
function_of-two_operands functions.Or g e = let same : or_bits ≡ g = cc in ap function_of_two (sym same)
function_of-two_operands functions.Xor g e = let same : xor_bits ≡ g = cc in ap function_of_two (sym same)

-- an infix form is written chunk by chunk
module _ (f : Function) (old opened left between right closed : List ℕ) where
  two_parts : (o : Option TwoOperands) → ((g : TwoOperands) → o ≡ Some g → function_of_two g ≡ f) → (x y : Option Tree)
      → opened ≡ old ++ opening_text f → IfSome x (λ a. left ≡ opened ++ infix_text a) → between ≡ left ++ middle_text f
      → IfSome y (λ b. right ≡ between ++ infix_text b) → closed ≡ right ++ codes ")" → IfSome (over_two o x y) (λ t. closed ≡ old ++ infix_text t)
  two_parts None is x y h1 h2 h3 h4 h5 = tt
  two_parts (Some g) is None y h1 h2 h3 h4 h5 = tt
  two_parts (Some g) is (Some a) None h1 h2 h3 h4 h5 = tt
  two_parts (Some g) is (Some a) (Some b) h1 h2 h3 h4 h5 =
      let text : closed ≡ ((((old ++ opening_text f) ++ infix_text a) ++ middle_text f) ++ infix_text b) ++ codes ")" = rw (h5, h4, h3, h2, h1) refl in
      let all : ((((old ++ opening_text f) ++ infix_text a) ++ middle_text f) ++ infix_text b) ++ codes ")"
      ≡ old ++ (opening_text f ++ infix_text a ++ middle_text f ++ infix_text b ++ codes ")") = simp append_assoc refl in
      rw (is g refl) (text ∙ all)

  pub infix_of_two : (x y : Option Tree)
      → opened ≡ old ++ opening_text f → IfSome x (λ a. left ≡ opened ++ infix_text a) → between ≡ left ++ middle_text f
      → IfSome y (λ b. right ≡ between ++ infix_text b) → closed ≡ right ++ codes ")"
      → IfSome (over_two (two_operands f) x y) (λ t. closed ≡ old ++ infix_text t)
  infix_of_two x y h1 h2 h3 h4 h5 = two_parts (two_operands f) (function_of-two_operands f) x y h1 h2 h3 h4 h5

-- the tokens of the code's tree are those of the tree that it is
one_tokens : (f : Function) (o : Option OneOperand) → ((g : OneOperand) → o ≡ Some g → function_of_one g ≡ f) → (xs : List Token) (x : Option Tree)
    → ((a : Tree) → x ≡ Some a → xs ≡ tokens_of a)
    → (t : Tree) → over_one o x ≡ Some t → xs ++ Fun f ∷ [] ≡ tokens_of t
one_tokens f None is xs x left t e = let bad : ◌≡◌ {A = Option Tree} None (Some t) = e in absurd cc
one_tokens f (Some g) is xs None left t e = let bad : ◌≡◌ {A = Option Tree} None (Some t) = e in absurd cc
one_tokens f (Some g) is xs (Some a) left t e =
    let same : one g a ≡ t = cc in
    rw (left a refl, ← is g refl) (ap tokens_of same)

two_tokens : (f : Function) (o : Option TwoOperands) → ((g : TwoOperands) → o ≡ Some g → function_of_two g ≡ f) → (xs ys : List Token) (x y : Option Tree)
    → ((a : Tree) → x ≡ Some a → xs ≡ tokens_of a) → ((b : Tree) → y ≡ Some b → ys ≡ tokens_of b)
    → (t : Tree) → over_two o x y ≡ Some t → (xs ++ ys) ++ Fun f ∷ [] ≡ tokens_of t
two_tokens f None is xs ys x y left right t e = let bad : ◌≡◌ {A = Option Tree} None (Some t) = e in absurd cc
two_tokens f (Some g) is xs ys None y left right t e = let bad : ◌≡◌ {A = Option Tree} None (Some t) = e in absurd cc
two_tokens f (Some g) is xs ys (Some a) None left right t e = let bad : ◌≡◌ {A = Option Tree} None (Some t) = e in absurd cc
two_tokens f (Some g) is xs ys (Some a) (Some b) left right t e =
    let same : two g a b ≡ t = cc in
    rw (left a refl, right b refl, ← is g refl) (ap tokens_of same)

pub tokens_of_expr-tree : (e : Expr) (t : Tree) → tree_of_expr e ≡ Some t → tokens_of_expr e ≡ tokens_of t
tokens_of_expr-tree (Number n) t e = let same : number n ≡ t = cc in ap tokens_of same
tokens_of_expr-tree (Var l p) t e = let same : variable l p ≡ t = cc in ap tokens_of same
tokens_of_expr-tree (One' f p a) t e = one_tokens f (one_operand f) (function_of-one_operand f) (tokens_of_expr a) (tree_of_expr a) (tokens_of_expr-tree a) t e
tokens_of_expr-tree (Two' f p a q b) t e = two_tokens f (two_operands f) (function_of-two_operands f) (tokens_of_expr a) (tokens_of_expr b)
    (tree_of_expr a) (tree_of_expr b) (tokens_of_expr-tree a) (tokens_of_expr-tree b) t e

-- the one item that is left is that of the whole tree
pub last_expr : (items : List Token) (whole : Tree) (i : ℕ) (stack rest : List Expr) (expr : Expr)
    → IsRunning some_tree items whole i (map tree_of_expr stack) → drop i items ≡ [] → stack ≡ expr ∷ rest
    → tree_of_expr expr ≡ Some whole
last_expr items whole i stack rest expr now past e =
    let all : tree_of_expr expr ∷ map tree_of_expr rest ≡ Some whole ∷ [] = ap (map tree_of_expr) (sym e)
    ∙ ends some_tree items whole i (map tree_of_expr stack) now past in
    cc

-- the tree of an expression has no more tokens than the expression
pub small_tree : (expr : Expr) (t : Tree) → tree_of_expr expr ≡ Some t → length (tokens_of t) ≤ 255 → IsExpression expr
small_tree expr t e few = rw e few
