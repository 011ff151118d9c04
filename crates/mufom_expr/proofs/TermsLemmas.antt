-- The tokens of a postfix expression are those of its tree.
use Rattle.std.proofs.Common.{ℕ, ◌≡◌, List, [], ◌∷◌, ◌++◌, Option, Some, None, refl, sym, ◌∙◌, ap, subst, append_assoc, append-nil}
use Rattle.std.specs.Prelude.{option_and_then}
use Rattle.std.specs.List.{AllByRecursion}
use Rattle.std.proofs.lemmas.List.{map-append}
use Rattle.mufom_expr.specs.declared.token.Letter.{Letter}
use Rattle.mufom_expr.specs.declared.token.Function.{Function}
use Rattle.mufom_expr.specs.declared.token.Function.TheVariants as functions
use Rattle.mufom_expr.specs.declared.token.Token.{Token}
use Rattle.mufom_expr.specs.declared.token.Token.TheVariants.{Number, Var, Fun}
use Rattle.mufom_expr.specs.Tree.{Tree, number, variable, one, two, OneOperand, absolute, negated, TwoOperands, plus, minus, divided, times, larger}
use Rattle.mufom_expr.specs.Tree.{smaller, modulo, is_less, is_greater, is_equal, is_unequal, and_bits, or_bits, xor_bits, tokens_of, IsInRange}
use Rattle.mufom_expr.specs.Tree.{function_of_one, function_of_two}
use Rattle.mufom_expr.specs.Renamed.{renamed_token, renamed_tokens}
use Rattle.mufom_expr.specs.Value.{with_variables, variables_of}
use Rattle.mufom_expr.specs.TreeCode.{terms_after-tokens_of, the_term-tokens_of}
use Rattle.mufom_expr.specs.Terms.{terms_after, after_token, after_function, on_one, on_two, the_term, LeaveOneTerm}

-- the tokens of a stack of terms, the lowest first
abbrev stacked : List Tree → List Token
stacked [] = []
stacked (t ∷ terms) = stacked terms ++ tokens_of t

on_one-stacked : (f : OneOperand) (s s' : List Tree) → on_one f s ≡ Some s' → stacked s ++ Fun (function_of_one f) ∷ [] ≡ stacked s'
on_one-stacked f [] s' e = cc
on_one-stacked f (a ∷ s) s' e =
    let same : one f a ∷ s ≡ s' = cc in
    append_assoc (stacked s) (tokens_of a) (Fun (function_of_one f) ∷ []) ∙ ap stacked same

on_two-stacked : (f : TwoOperands) (s s' : List Tree) → on_two f s ≡ Some s' → stacked s ++ Fun (function_of_two f) ∷ [] ≡ stacked s'
on_two-stacked f [] s' e = cc
on_two-stacked f (b ∷ []) s' e = cc
on_two-stacked f (b ∷ a ∷ s) s' e =
    let same : two f a b ∷ s ≡ s' = cc in
    let left : (stacked s ++ tokens_of a) ++ tokens_of b ≡ stacked s ++ (tokens_of a ++ tokens_of b) = append_assoc (stacked s) (tokens_of a) (tokens_of b) in
    ap (λ ts. ts ++ Fun (function_of_two f) ∷ []) left ∙ append_assoc (stacked s) (tokens_of a ++ tokens_of b) (Fun (function_of_two f) ∷ []) ∙ ap stacked same

after_function-stacked : (f : Function) (s s' : List Tree) → after_function f s ≡ Some s' → stacked s ++ Fun f ∷ [] ≡ stacked s'
after_function-stacked functions.Abs s s' e = on_one-stacked absolute s s' e
after_function-stacked functions.Neg s s' e = on_one-stacked negated s s' e
after_function-stacked functions.Plus s s' e = on_two-stacked plus s s' e
after_function-stacked functions.Minus s s' e = on_two-stacked minus s s' e
after_function-stacked functions.Divide s s' e = on_two-stacked divided s s' e
after_function-stacked functions.Times s s' e = on_two-stacked times s s' e
after_function-stacked functions.Max s s' e = on_two-stacked larger s s' e
after_function-stacked functions.Min s s' e = on_two-stacked smaller s s' e
after_function-stacked functions.Mod s s' e = on_two-stacked modulo s s' e
after_function-stacked functions.Less s s' e = on_two-stacked is_less s s' e
after_function-stacked functions.Greater s s' e = on_two-stacked is_greater s s' e
after_function-stacked functions.Equal s s' e = on_two-stacked is_equal s s' e
after_function-stacked functions.Unequal s s' e = on_two-stacked is_unequal s s' e
after_function-stacked functions.And s s' e = on_two-stacked and_bits s s' e
after_function-stacked functions.Or s s' e = on_two-stacked or_bits s s' e
after_function-stacked functions.Xor s s' e = on_two-stacked xor_bits s s' e

after_token-stacked : (t : Token) (s s' : List Tree) → after_token t s ≡ Some s' → stacked s ++ t ∷ [] ≡ stacked s'
after_token-stacked (Number n) s s' e = let same : number n ∷ s ≡ s' = cc in ap stacked same
after_token-stacked (Var l p) s s' e = let same : variable l p ∷ s ≡ s' = cc in ap stacked same
after_token-stacked (Fun f) s s' e = after_function-stacked f s s' e

-- if the whole run left something, so did the first step
step_some : {A : Type 0} (f : A → Option A) (o : Option A) (y : A) → option_and_then f o ≡ Some y → (x : A) × (o ≡ Some x) × (f x ≡ Some y)
step_some f None y e = cc
step_some f (Some x) y e = (x, refl, e)

-- the tokens so far and those to come are the tokens of the terms that are left
pub terms_after-stacked : (ts : List Token) (s s' : List Tree) → terms_after ts s ≡ Some s' → stacked s ++ ts ≡ stacked s'
terms_after-stacked [] s s' e = let same : s ≡ s' = cc in append-nil (stacked s) ∙ ap stacked same
terms_after-stacked (t ∷ ts) s s' e =
    let step = step_some (terms_after ts) (after_token t s) s' e in
    sym (append_assoc (stacked s) (t ∷ []) ts) ∙ ap (λ prefix. prefix ++ ts) (after_token-stacked t s step.0 step.1)
    ∙ terms_after-stacked ts step.0 s' step.2

pub tokens_of-the_term : (ts : List Token) → LeaveOneTerm ts → ts ≡ tokens_of (the_term ts)
tokens_of-the_term ts h = terms_after-stacked ts [] (the_term ts ∷ []) h

-- the tokens of a renamed tree are the renamed tokens
pub renamed_tokens-tokens_of : (rename : Letter → ℕ → Letter × ℕ) (t : Tree) → renamed_tokens rename (tokens_of t) ≡ tokens_of (with_variables rename t)
renamed_tokens-tokens_of rename (number n) = refl
renamed_tokens-tokens_of rename (variable l p) = refl
renamed_tokens-tokens_of rename (one f a) =
    map-append (renamed_token rename) (tokens_of a) (Fun (function_of_one f) ∷ [])
    ∙ ap (λ ts. ts ++ Fun (function_of_one f) ∷ []) (renamed_tokens-tokens_of rename a)
renamed_tokens-tokens_of rename (two f a b) =
    let left = renamed_tokens-tokens_of rename a in
    let right = renamed_tokens-tokens_of rename b in
    map-append (renamed_token rename) (tokens_of a ++ tokens_of b) (Fun (function_of_two f) ∷ [])
    ∙ ap (λ ts. ts ++ Fun (function_of_two f) ∷ []) (map-append (renamed_token rename) (tokens_of a) (tokens_of b) ∙ (λ i. left i ++ right i))

-- a tree's tokens leave one term
pub LeaveOneTerm-tokens_of : (t : Tree) → LeaveOneTerm (tokens_of t)
LeaveOneTerm-tokens_of t =
    let run : terms_after (tokens_of t) [] ≡ Some (t ∷ [])
    = ap (λ ts. terms_after ts []) (sym (append-nil (tokens_of t))) ∙ terms_after-tokens_of t [] [] in
    run ∙ ap (λ u. Some (u ∷ [])) (sym (the_term-tokens_of t))

-- tokens that leave one term do so with their variables renamed: the term with its variables renamed
pub tokens_of-renamed : (rename : Letter → ℕ → Letter × ℕ) (ts : List Token) → LeaveOneTerm ts → renamed_tokens rename ts
    ≡ tokens_of (with_variables rename (the_term ts))
tokens_of-renamed rename ts leave = ap (renamed_tokens rename) (tokens_of-the_term ts leave) ∙ renamed_tokens-tokens_of rename (the_term ts)

pub LeaveOneTerm-renamed : (rename : Letter → ℕ → Letter × ℕ) (ts : List Token) → LeaveOneTerm ts → LeaveOneTerm (renamed_tokens rename ts)
LeaveOneTerm-renamed rename ts leave = subst LeaveOneTerm (sym (tokens_of-renamed rename ts leave))
    (LeaveOneTerm-tokens_of (with_variables rename (the_term ts)))

pub the_term-renamed : (rename : Letter → ℕ → Letter × ℕ) (ts : List Token) → LeaveOneTerm ts → the_term (renamed_tokens rename ts)
    ≡ with_variables rename (the_term ts)
the_term-renamed rename ts leave = ap the_term (tokens_of-renamed rename ts leave) ∙ the_term-tokens_of (with_variables rename (the_term ts))

all_left : (P : Letter × ℕ → Type 0) (xs ys : List (Letter × ℕ)) → AllByRecursion P (xs ++ ys) → AllByRecursion P xs
all_left P [] ys h = tt
all_left P (x ∷ xs) ys h = (h.0, all_left P xs ys h.1)

all_right : (P : Letter × ℕ → Type 0) (xs ys : List (Letter × ℕ)) → AllByRecursion P (xs ++ ys) → AllByRecursion P ys
all_right P [] ys h = h
all_right P (x ∷ xs) ys h = all_right P xs ys h.1

-- two renamings that agree on the variables of a tree give the same tree
pub with_variables-agrees_on : (f g : Letter → ℕ → Letter × ℕ) (t : Tree) → AllByRecursion (λ v. f v.0 v.1 ≡ g v.0 v.1) (variables_of t)
    → with_variables f t ≡ with_variables g t
with_variables-agrees_on f g (number n) h = refl
with_variables-agrees_on f g (variable l p) h = ap (λ v. variable v.0 v.1) h.0
with_variables-agrees_on f g (one o a) h = ap (one o) (with_variables-agrees_on f g a h)
with_variables-agrees_on f g (two o a b) h =
    let left = with_variables-agrees_on f g a (all_left (λ v. f v.0 v.1 ≡ g v.0 v.1) (variables_of a) (variables_of b) h) in
    let right = with_variables-agrees_on f g b (all_right (λ v. f v.0 v.1 ≡ g v.0 v.1) (variables_of a) (variables_of b) h) in
    λ i. two o (left i) (right i)

-- one more token in range
pub in_range-push : (tokens : List Token) (token : Token) → AllByRecursion IsInRange tokens → IsInRange token → AllByRecursion IsInRange (tokens ++ token ∷ [])
in_range-push [] token all last = (last, tt)
in_range-push (x ∷ xs) token all last = (all.0, in_range-push xs token all.1 last)
