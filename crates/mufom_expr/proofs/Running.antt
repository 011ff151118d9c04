-- Processing the tokens of an expression with a stack that has one item for each tree on the stack of trees.
use Rattle.std.proofs.Common.{◌≡◌, ℕ, ◌+◌, ◌≤◌, List, [], ◌∷◌, length, drop, map, Option, Some, None, refl, sym, ◌∙◌, ap, arith}
use Rattle.std.specs.Prelude.{option_and_then}
use Rattle.std.proofs.lemmas.List.{length-map}
use Rattle.mufom_expr.specs.declared.token.Function.TheVariants as functions
use Rattle.mufom_expr.specs.declared.token.Token.{Token}
use Rattle.mufom_expr.specs.declared.token.Token.TheVariants.{Number, Var, Fun}
use Rattle.mufom_expr.specs.Codes.{operands_of}
use Rattle.mufom_expr.specs.Tree.{Tree, number, variable, one, two, OneOperand, absolute, negated, TwoOperands, plus, minus, divided, times, larger}
use Rattle.mufom_expr.specs.Tree.{smaller, modulo, is_less, is_greater, is_equal, is_unequal, and_bits, or_bits, xor_bits}
use Rattle.mufom_expr.specs.Terms.{after_token, terms_after, on_one, on_two, the_term, LeaveOneTerm}
use Rattle.mufom_expr.specs.Value.{Environment, value_at}
use Rattle.mufom_expr.specs.ValueStack.{values_with}
use Rattle.mufom_expr.specs.ExprTree.{trees_with}

-- after i tokens the items are those of the trees on the stack, and the remaining tokens combine these into the whole tree
pub record IsRunning {X : Type 0} (item : Tree → X) (tokens : List Token) (whole : Tree) (i : ℕ) (items : List X) : Type 0 where
  pub trees : List Tree
  pub left : terms_after (drop i tokens) trees ≡ Some (whole ∷ [])
  pub same : items ≡ map item trees

-- if the whole run left something, so did the first step
pub step_some : {A : Type 0} (f : A → Option A) (o : Option A) (y : A) → option_and_then f o ≡ Some y → (x : A) × (o ≡ Some x) × (f x ≡ Some y)
step_some f None y e = cc
step_some f (Some x) y e = (x, refl, e)

-- a function finds as many trees as it takes
one_enough : (f : OneOperand) (s s' : List Tree) → on_one f s ≡ Some s' → 1 ≤ length s
one_enough f [] s' e = let bad : ◌≡◌ {A = Option (List Tree)} None (Some s') = e in absurd cc
one_enough f (a ∷ s) s' e = omega arith

two_enough : (f : TwoOperands) (s s' : List Tree) → on_two f s ≡ Some s' → 2 ≤ length s
two_enough f [] s' e = let bad : ◌≡◌ {A = Option (List Tree)} None (Some s') = e in absurd cc
two_enough f (b ∷ []) s' e = let bad : ◌≡◌ {A = Option (List Tree)} None (Some s') = e in absurd cc
two_enough f (b ∷ a ∷ s) s' e = omega arith

pub enough : (token : Token) (s s' : List Tree) → after_token token s ≡ Some s' → operands_of token ≤ length s
enough (Number n) s s' e = omega arith
enough (Var l p) s s' e = omega arith
enough (Fun functions.Abs) s s' e = one_enough absolute s s' e
enough (Fun functions.Neg) s s' e = one_enough negated s s' e
enough (Fun functions.Plus) s s' e = two_enough plus s s' e
enough (Fun functions.Minus) s s' e = two_enough minus s s' e
enough (Fun functions.Divide) s s' e = two_enough divided s s' e
enough (Fun functions.Times) s s' e = two_enough times s s' e
enough (Fun functions.Max) s s' e = two_enough larger s s' e
enough (Fun functions.Min) s s' e = two_enough smaller s s' e
enough (Fun functions.Mod) s s' e = two_enough modulo s s' e
enough (Fun functions.Less) s s' e = two_enough is_less s s' e
enough (Fun functions.Greater) s s' e = two_enough is_greater s s' e
enough (Fun functions.Equal) s s' e = two_enough is_equal s s' e
enough (Fun functions.Unequal) s s' e = two_enough is_unequal s s' e
enough (Fun functions.And) s s' e = two_enough and_bits s s' e
enough (Fun functions.Or) s s' e = two_enough or_bits s s' e
enough (Fun functions.Xor) s s' e = two_enough xor_bits s s' e

module _ {X : Type 0} (item : Tree → X) (with : List X → Token → List X) where
  -- a token changes the items as it changes the trees
  abbrev Fits : Token → Type 0
  Fits token = (s s' : List Tree) → after_token token s ≡ Some s' → with (map item s) token ≡ map item s'

  fits_one : (f : OneOperand) (token : Token) → ((a : Tree) (s : List Tree) → with (item a ∷ map item s) token ≡ item (one f a) ∷ map item s)
      → (s s' : List Tree) → on_one f s ≡ Some s' → with (map item s) token ≡ map item s'
  fits_one f token each [] s' e = cc
  fits_one f token each (a ∷ s) s' e = let same : one f a ∷ s ≡ s' = cc in each a s ∙ ap (map item) same

  fits_two : (f : TwoOperands) (token : Token) → ((a b : Tree) (s : List Tree) → with (item b ∷ item a ∷ map item s) token ≡ item (two f a b) ∷ map item s)
      → (s s' : List Tree) → on_two f s ≡ Some s' → with (map item s) token ≡ map item s'
  fits_two f token each [] s' e = cc
  fits_two f token each (b ∷ []) s' e = cc
  fits_two f token each (b ∷ a ∷ s) s' e = let same : two f a b ∷ s ≡ s' = cc in each a b s ∙ ap (map item) same

  module _ (fits : (token : Token) → Fits token) (tokens : List Token) (whole : Tree) (i : ℕ) (items : List X)
      (now : IsRunning item tokens whole i items) (token : Token) (here : drop i tokens ≡ token ∷ drop (i + 1) tokens) where
    next_step : (after : List Tree) × (after_token token now.trees ≡ Some after) × (terms_after (drop (i + 1) tokens) after ≡ Some (whole ∷ []))
    next_step = step_some (terms_after (drop (i + 1) tokens)) (after_token token now.trees) (whole ∷ [])
        (ap (λ ts. terms_after ts now.trees) (sym here) ∙ now.left)

    pub goes_on : IsRunning item tokens whole (i + 1) (with items token)
    goes_on = record {
      trees = next_step.0;
      left = next_step.2;
      same = ap (λ (xs : List X). with xs token) now.same
          ∙ fits token now.trees next_step.0 next_step.1;
    }

    pub finds_operands : operands_of token ≤ length items
    finds_operands = omega (arith, enough token now.trees next_step.0 next_step.1, ap length now.same, length-map now.trees item)

module _ {X : Type 0} (item : Tree → X) where
  -- before the first token the stack is empty
  pub starts : (tokens : List Token) → LeaveOneTerm tokens → IsRunning item tokens (the_term tokens) 0 []
  starts tokens single = record { trees = []; left = single; same = refl }

  -- after the last token the stack has the item of the whole tree, and nothing else
  pub ends : (tokens : List Token) (whole : Tree) (i : ℕ) (items : List X) → IsRunning item tokens whole i items → drop i tokens ≡ [] → items ≡ item whole ∷ []
  ends tokens whole i items now past =
      let left : ◌≡◌ {A = Option (List Tree)} (Some now.trees) (Some (whole ∷ [])) = ap (λ ts. terms_after ts now.trees) (sym past) ∙ now.left in
      let trees : now.trees ≡ whole ∷ [] = cc in
      now.same ∙ ap (map item) trees

-- the values on the stack are those of the trees on the stack
pub values_fit : (m : ℕ) (env : Environment) (token : Token) → Fits (value_at m env) (values_with m env) token
values_fit m env (Number n) s s' e = let same : number n ∷ s ≡ s' = cc in ap (map (value_at m env)) same
values_fit m env (Var l p) s s' e = let same : variable l p ∷ s ≡ s' = cc in ap (map (value_at m env)) same
values_fit m env (Fun functions.Abs) s s' e = fits_one (value_at m env) (values_with m env) absolute (Fun functions.Abs) (λ a s. refl) s s' e
values_fit m env (Fun functions.Neg) s s' e = fits_one (value_at m env) (values_with m env) negated (Fun functions.Neg) (λ a s. refl) s s' e
values_fit m env (Fun functions.Plus) s s' e = fits_two (value_at m env) (values_with m env) plus (Fun functions.Plus) (λ a b s. refl) s s' e
values_fit m env (Fun functions.Minus) s s' e = fits_two (value_at m env) (values_with m env) minus (Fun functions.Minus) (λ a b s. refl) s s' e
values_fit m env (Fun functions.Divide) s s' e = fits_two (value_at m env) (values_with m env) divided (Fun functions.Divide) (λ a b s. refl) s s' e
values_fit m env (Fun functions.Times) s s' e = fits_two (value_at m env) (values_with m env) times (Fun functions.Times) (λ a b s. refl) s s' e
values_fit m env (Fun functions.Max) s s' e = fits_two (value_at m env) (values_with m env) larger (Fun functions.Max) (λ a b s. refl) s s' e
values_fit m env (Fun functions.Min) s s' e = fits_two (value_at m env) (values_with m env) smaller (Fun functions.Min) (λ a b s. refl) s s' e
values_fit m env (Fun functions.Mod) s s' e = fits_two (value_at m env) (values_with m env) modulo (Fun functions.Mod) (λ a b s. refl) s s' e
values_fit m env (Fun functions.Less) s s' e = fits_two (value_at m env) (values_with m env) is_less (Fun functions.Less) (λ a b s. refl) s s' e
values_fit m env (Fun functions.Greater) s s' e = fits_two (value_at m env) (values_with m env) is_greater (Fun functions.Greater) (λ a b s. refl) s s' e
values_fit m env (Fun functions.Equal) s s' e = fits_two (value_at m env) (values_with m env) is_equal (Fun functions.Equal) (λ a b s. refl) s s' e
values_fit m env (Fun functions.Unequal) s s' e = fits_two (value_at m env) (values_with m env) is_unequal (Fun functions.Unequal) (λ a b s. refl) s s' e
values_fit m env (Fun functions.And) s s' e = fits_two (value_at m env) (values_with m env) and_bits (Fun functions.And) (λ a b s. refl) s s' e
values_fit m env (Fun functions.Or) s s' e = fits_two (value_at m env) (values_with m env) or_bits (Fun functions.Or) (λ a b s. refl) s s' e
values_fit m env (Fun functions.Xor) s s' e = fits_two (value_at m env) (values_with m env) xor_bits (Fun functions.Xor) (λ a b s. refl) s s' e

abbrev pub some_tree : Tree → Option Tree
some_tree t = Some t

-- the trees on the code's stack are those on the stack of trees
pub trees_fit : (token : Token) → Fits some_tree trees_with token
trees_fit (Number n) s s' e = let same : number n ∷ s ≡ s' = cc in ap (map some_tree) same
trees_fit (Var l p) s s' e = let same : variable l p ∷ s ≡ s' = cc in ap (map some_tree) same
trees_fit (Fun functions.Abs) s s' e = fits_one some_tree trees_with absolute (Fun functions.Abs) (λ a s. refl) s s' e
trees_fit (Fun functions.Neg) s s' e = fits_one some_tree trees_with negated (Fun functions.Neg) (λ a s. refl) s s' e
trees_fit (Fun functions.Plus) s s' e = fits_two some_tree trees_with plus (Fun functions.Plus) (λ a b s. refl) s s' e
trees_fit (Fun functions.Minus) s s' e = fits_two some_tree trees_with minus (Fun functions.Minus) (λ a b s. refl) s s' e
trees_fit (Fun functions.Divide) s s' e = fits_two some_tree trees_with divided (Fun functions.Divide) (λ a b s. refl) s s' e
trees_fit (Fun functions.Times) s s' e = fits_two some_tree trees_with times (Fun functions.Times) (λ a b s. refl) s s' e
trees_fit (Fun functions.Max) s s' e = fits_two some_tree trees_with larger (Fun functions.Max) (λ a b s. refl) s s' e
trees_fit (Fun functions.Min) s s' e = fits_two some_tree trees_with smaller (Fun functions.Min) (λ a b s. refl) s s' e
trees_fit (Fun functions.Mod) s s' e = fits_two some_tree trees_with modulo (Fun functions.Mod) (λ a b s. refl) s s' e
trees_fit (Fun functions.Less) s s' e = fits_two some_tree trees_with is_less (Fun functions.Less) (λ a b s. refl) s s' e
trees_fit (Fun functions.Greater) s s' e = fits_two some_tree trees_with is_greater (Fun functions.Greater) (λ a b s. refl) s s' e
trees_fit (Fun functions.Equal) s s' e = fits_two some_tree trees_with is_equal (Fun functions.Equal) (λ a b s. refl) s s' e
trees_fit (Fun functions.Unequal) s s' e = fits_two some_tree trees_with is_unequal (Fun functions.Unequal) (λ a b s. refl) s s' e
trees_fit (Fun functions.And) s s' e = fits_two some_tree trees_with and_bits (Fun functions.And) (λ a b s. refl) s s' e
trees_fit (Fun functions.Or) s s' e = fits_two some_tree trees_with or_bits (Fun functions.Or) (λ a b s. refl) s s' e
trees_fit (Fun functions.Xor) s s' e = fits_two some_tree trees_with xor_bits (Fun functions.Xor) (λ a b s. refl) s s' e
