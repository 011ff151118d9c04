-- Processing the tokens of an expression with a stack of values: whether a divisor is 0.
use Rattle.std.proofs.Common.{◌≡◌, ℕ, ◌+◌, ◌-◌, ◌<◌, ◌≤◌, List, [], ◌∷◌, length, drop, map, reverse, Option, Some, Bool, true, false, ◌||◌, refl, sym}
use Rattle.std.proofs.Common.{◌∙◌, ap, subst, arith, get_or}
use Rattle.std.specs.Prelude.{slice_get, if◌then◌else◌}
use Rattle.std.specs.List.{list_any}
use Rattle.std.proofs.lemmas.List.{length-map, length-reverse, get_or-reverse}
use Rattle.std.proofs.lemmas.Option.{slice_get-get_or}
use Rattle.mufom_expr.specs.declared.token.Function.TheVariants as functions
use Rattle.mufom_expr.specs.declared.token.Token.{Token}
use Rattle.mufom_expr.specs.declared.token.Token.TheVariants.{Number, Var, Fun}
use Rattle.mufom_expr.specs.Codes.{operands_of}
use Rattle.mufom_expr.specs.Tree.{Tree, number, variable, one, two, OneOperand, absolute, negated, TwoOperands, plus, minus, divided, times, larger}
use Rattle.mufom_expr.specs.Tree.{smaller, modulo, is_less, is_greater, is_equal, is_unequal, and_bits, or_bits, xor_bits}
use Rattle.mufom_expr.specs.Terms.{after_token, terms_after, on_one, on_two, the_term, LeaveOneTerm}
use Rattle.mufom_expr.specs.Value.{Environment, value_at, divides_by_zero, is_division, is_zero}
use Rattle.mufom_expr.specs.ValueStack.{values_with, zero_there, token_divides_by_zero}
use Rattle.mufom_expr.proofs.Running.{step_some, enough, values_fit}

-- the last value is the first one that is popped
pub top-reverse : (values : List (Option ℕ)) → slice_get (reverse values) 0 ≡ slice_get values (length values - 1)
top-reverse [] = refl
top-reverse (v ∷ values) =
    let some : 0 < length (v ∷ values) = omega arith in
    let longest : 0 < length (reverse (v ∷ values)) = omega (arith, length-reverse (v ∷ values)) in
    let last : length (v ∷ values) - 1 < length (v ∷ values) = omega arith in
    let place : length (v ∷ values) - 1 - 0 ≡ length (v ∷ values) - 1 = omega arith in
    slice_get-get_or (reverse (v ∷ values)) 0 v longest
    ∙ ap Some (get_or-reverse (v ∷ values) 0 v some ∙ ap (λ k. get_or (v ∷ values) k v) place)
    ∙ sym (slice_get-get_or (v ∷ values) (length (v ∷ values) - 1) v last)

or_false : (b : Bool) → (b || false) ≡ b
or_false true = refl
or_false false = refl

mixed : (a b z w : Bool) → ((a || b || w) || z) ≡ ((b || (a || z)) || w)
mixed true true z w = refl
mixed true false z w = refl
mixed false true z w = refl
mixed false false true true = refl
mixed false false true false = refl
mixed false false false true = refl
mixed false false false false = refl

module _ (m : ℕ) (env : Environment) where
  -- one of the trees divides by 0
  abbrev any_divides : List Tree → Bool
  any_divides trees = list_any (divides_by_zero (value_at m env)) trees

  one_step : (f : OneOperand) (s s' : List Tree) → on_one f s ≡ Some s' → any_divides s' ≡ (any_divides s || false)
  one_step f [] s' e = absurd cc
  one_step f (a ∷ s) s' e = let same : one f a ∷ s ≡ s' = cc in ap any_divides (sym same) ∙ sym (or_false (any_divides (a ∷ s)))

  two_step : (f : TwoOperands) (s s' : List Tree) → on_two f s ≡ Some s'
      → any_divides s' ≡ (any_divides s || (if is_division f then zero_there (slice_get (map (value_at m env) s) 0) else false))
  two_step f [] s' e = absurd cc
  two_step f (b ∷ []) s' e = absurd cc
  two_step f (b ∷ a ∷ s) s' e =
      let same : two f a b ∷ s ≡ s' = cc in
      ap any_divides (sym same)
      ∙ mixed (divides_by_zero (value_at m env) a) (divides_by_zero (value_at m env) b) (any_divides s) (if is_division f
      then is_zero (value_at m env b) else false)

  -- after a token a tree divides by 0 if one did before, or if the token divides by 0
  token_step : (token : Token) (s s' : List Tree) → after_token token s ≡ Some s'
      → any_divides s' ≡ (any_divides s || token_divides_by_zero (map (value_at m env) s) token)
  token_step (Number n) s s' e = let same : number n ∷ s ≡ s' = cc in ap any_divides (sym same) ∙ sym (or_false (any_divides s))
  token_step (Var l p) s s' e = let same : variable l p ∷ s ≡ s' = cc in ap any_divides (sym same) ∙ sym (or_false (any_divides s))
  token_step (Fun functions.Abs) s s' e = one_step absolute s s' e
  token_step (Fun functions.Neg) s s' e = one_step negated s s' e
  token_step (Fun functions.Plus) s s' e = two_step plus s s' e
  token_step (Fun functions.Minus) s s' e = two_step minus s s' e
  token_step (Fun functions.Divide) s s' e = two_step divided s s' e
  token_step (Fun functions.Times) s s' e = two_step times s s' e
  token_step (Fun functions.Max) s s' e = two_step larger s s' e
  token_step (Fun functions.Min) s s' e = two_step smaller s s' e
  token_step (Fun functions.Mod) s s' e = two_step modulo s s' e
  token_step (Fun functions.Less) s s' e = two_step is_less s s' e
  token_step (Fun functions.Greater) s s' e = two_step is_greater s s' e
  token_step (Fun functions.Equal) s s' e = two_step is_equal s s' e
  token_step (Fun functions.Unequal) s s' e = two_step is_unequal s s' e
  token_step (Fun functions.And) s s' e = two_step and_bits s s' e
  token_step (Fun functions.Or) s s' e = two_step or_bits s s' e
  token_step (Fun functions.Xor) s s' e = two_step xor_bits s s' e

  -- after i tokens the values are those of the trees on the stack, it is known whether one of these divides by 0, and the tokens to
  -- come make them the whole tree
  pub record IsDividing (tokens : List Token) (whole : Tree) (i : ℕ) (values : List (Option ℕ)) (found : Bool) : Type 0 where
    pub trees : List Tree
    pub left : terms_after (drop i tokens) trees ≡ Some (whole ∷ [])
    pub same : values ≡ map (value_at m env) trees
    pub divides : found ≡ any_divides trees

  -- before the first token the stack is empty
  pub starts_dividing : (tokens : List Token) → LeaveOneTerm tokens → IsDividing tokens (the_term tokens) 0 [] false
  starts_dividing tokens single = record { trees = []; left = single; same = refl; divides = refl }

  -- after the last token it is known of the whole tree
  pub ends_dividing : (tokens : List Token) (whole : Tree) (i : ℕ) (values : List (Option ℕ)) (found : Bool) → IsDividing tokens whole i values found
      → drop i tokens ≡ [] → found ≡ divides_by_zero (value_at m env) whole
  ends_dividing tokens whole i values found now past =
      let left : ◌≡◌ {A = Option (List Tree)} (Some now.trees) (Some (whole ∷ [])) = ap (λ ts. terms_after ts now.trees) (sym past) ∙ now.left in
      let trees : now.trees ≡ whole ∷ [] = cc in
      now.divides ∙ ap any_divides trees ∙ or_false (divides_by_zero (value_at m env) whole)

  module _ (tokens : List Token) (whole : Tree) (i : ℕ) (values : List (Option ℕ)) (found : Bool) (now : IsDividing tokens whole i values found)
      (token : Token) (here : drop i tokens ≡ token ∷ drop (i + 1) tokens) where
    next_step : (after : List Tree) × (after_token token now.trees ≡ Some after) × (terms_after (drop (i + 1) tokens) after ≡ Some (whole ∷ []))
    next_step = step_some (terms_after (drop (i + 1) tokens)) (after_token token now.trees) (whole ∷ [])
        (ap (λ ts. terms_after ts now.trees) (sym here) ∙ now.left)

    goes_on_dividing : IsDividing tokens whole (i + 1) (values_with m env values token) (found || token_divides_by_zero values token)
    goes_on_dividing = record {
      trees = next_step.0;
      left = next_step.2;
      same = ap (λ (vs : List (Option ℕ)). values_with m env vs token) now.same ∙ values_fit m env token now.trees next_step.0 next_step.1;
      divides =
          ap (λ b. b || token_divides_by_zero values token) now.divides
          ∙ ap (λ (vs : List (Option ℕ)). any_divides now.trees || token_divides_by_zero vs token) now.same
          ∙ sym (token_step token now.trees next_step.0 next_step.1);
    }

    -- the same for values and a result that are equal to these
    pub steps_dividing : (after : List (Option ℕ)) (finds : Bool) → after ≡ values_with m env values token → finds
        ≡ (found || token_divides_by_zero values token)
        → IsDividing tokens whole (i + 1) after finds
    steps_dividing after finds same divides =
        subst (λ b. IsDividing tokens whole (i + 1) after b) (sym divides)
        (subst (λ (vs : List (Option ℕ)). IsDividing tokens whole (i + 1) vs (found || token_divides_by_zero values token)) (sym same) goes_on_dividing)

    pub finds_operands_dividing : operands_of token ≤ length values
    finds_operands_dividing = omega (arith, enough token now.trees next_step.0 next_step.1, ap length now.same, length-map now.trees (value_at m env))

-- the token of an expression of one token is not a function
pub single_operands : (token : Token) → LeaveOneTerm (token ∷ []) → operands_of token ≡ 0
single_operands token single =
    let step = step_some (terms_after []) (after_token token []) (the_term (token ∷ []) ∷ []) single in
    let few = enough token [] step.0 step.1 in
    omega (arith, few)
