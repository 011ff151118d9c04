-- The number of terms that tokens leave.
use Rattle.std.proofs.Common.{◌≡◌, ℕ, zero, suc, ◌+◌, ◌-◌, ◌<◌, ◌≤◌, List, [], ◌∷◌, ◌++◌, length, Option, Some, None, refl, sym, ◌∙◌, ap, arith}
use Rattle.std.specs.Prelude.{option_map, option_and_then}
use Rattle.mufom_expr.specs.declared.token.Function.TheVariants as functions
use Rattle.mufom_expr.specs.declared.token.Token.{Token}
use Rattle.mufom_expr.specs.declared.token.Token.TheVariants.{Number, Var, Fun}
use Rattle.mufom_expr.specs.Codes.{operands_of}
use Rattle.mufom_expr.specs.Tree.{Tree, OneOperand, absolute, negated, TwoOperands, plus, minus, divided, times, larger, smaller, modulo, is_less}
use Rattle.mufom_expr.specs.Tree.{is_greater, is_equal, is_unequal, and_bits, or_bits, xor_bits}
use Rattle.mufom_expr.specs.Terms.{after_token, terms_after, on_one, on_two, the_only, leaves, LeaveOneTerm}
use Rattle.mufom_expr.proofs.TermsLemmas.{terms_after-stacked}

-- going on after a part of the tokens
through : (xs ys : List Token) (o : Option (List Tree)) → ((s : List Tree) → terms_after (xs ++ ys) s ≡ option_and_then (terms_after ys) (terms_after xs s))
    → option_and_then (terms_after (xs ++ ys)) o ≡ option_and_then (terms_after ys) (option_and_then (terms_after xs) o)
through xs ys None each = refl
through xs ys (Some s) each = each s

pub terms_after-append : (xs ys : List Token) (s : List Tree) → terms_after (xs ++ ys) s ≡ option_and_then (terms_after ys) (terms_after xs s)
terms_after-append [] ys s = refl
terms_after-append (x ∷ xs) ys s = through xs ys (after_token x s) (terms_after-append xs ys)

-- what one more token leaves: its operands are removed, and one term is added
abbrev LeavesAfter : Token → List Tree → Type 0
LeavesAfter token s = option_map length (terms_after (token ∷ []) s) ≡ Some (length s - operands_of token + 1)

on_one-length : (f : OneOperand) (s : List Tree) → 1 ≤ length s → option_map length (option_and_then (terms_after []) (on_one f s)) ≡ Some (length s - 1 + 1)
on_one-length f [] h = absurd (omega (arith, h))
on_one-length f (a ∷ s) h = let e : suc (length s) ≡ suc (length s) - 1 + 1 = omega arith in ap Some e

on_two-length : (f : TwoOperands) (s : List Tree) → 2 ≤ length s → option_map length (option_and_then (terms_after []) (on_two f s)) ≡ Some (length s - 2 + 1)
on_two-length f [] h = absurd (omega (arith, h))
on_two-length f (b ∷ []) h = absurd (omega (arith, h))
on_two-length f (b ∷ a ∷ s) h = let e : suc (length s) ≡ suc (suc (length s)) - 2 + 1 = omega arith in ap Some e

one_more : (token : Token) (s : List Tree) → operands_of token ≤ length s → LeavesAfter token s
one_more (Number n) s h = let e : suc (length s) ≡ length s - 0 + 1 = omega arith in ap Some e
one_more (Var l p) s h = let e : suc (length s) ≡ length s - 0 + 1 = omega arith in ap Some e
one_more (Fun functions.Abs) s h = on_one-length absolute s h
one_more (Fun functions.Neg) s h = on_one-length negated s h
one_more (Fun functions.Plus) s h = on_two-length plus s h
one_more (Fun functions.Minus) s h = on_two-length minus s h
one_more (Fun functions.Divide) s h = on_two-length divided s h
one_more (Fun functions.Times) s h = on_two-length times s h
one_more (Fun functions.Max) s h = on_two-length larger s h
one_more (Fun functions.Min) s h = on_two-length smaller s h
one_more (Fun functions.Mod) s h = on_two-length modulo s h
one_more (Fun functions.Less) s h = on_two-length is_less s h
one_more (Fun functions.Greater) s h = on_two-length is_greater s h
one_more (Fun functions.Equal) s h = on_two-length is_equal s h
one_more (Fun functions.Unequal) s h = on_two-length is_unequal s h
one_more (Fun functions.And) s h = on_two-length and_bits s h
one_more (Fun functions.Or) s h = on_two-length or_bits s h
one_more (Fun functions.Xor) s h = on_two-length xor_bits s h

some_is : (a b : ℕ) → ◌≡◌ {A = Option ℕ} (Some a) (Some b) → a ≡ b
some_is a b e = cc

of_stack : (token : Token) (n : ℕ) (o : Option (List Tree)) → option_map length o ≡ Some n → operands_of token ≤ n
    → option_map length (option_and_then (terms_after (token ∷ [])) o) ≡ Some (n - operands_of token + 1)
of_stack token n None e h = let bad : ◌≡◌ {A = Option ℕ} None (Some n) = e in absurd cc
of_stack token n (Some s) e h =
    let count : length s ≡ n = some_is (length s) n e in
    rw (← count) (one_more token s (rw count h))

-- a token that finds its operands
pub leaves-push : (tokens : List Token) (token : Token) (n : ℕ) → leaves tokens ≡ Some n → operands_of token ≤ n → leaves (tokens ++ token ∷ [])
    ≡ Some (n - operands_of token + 1)
leaves-push tokens token n e h = ap (option_map length) (terms_after-append tokens (token ∷ []) []) ∙ of_stack token n (terms_after tokens []) e h

none_left : (tokens : List Token) (o : Option (List Tree)) → terms_after tokens [] ≡ o → option_map length o ≡ Some 0 → tokens ≡ []
none_left tokens None run e = let bad : ◌≡◌ {A = Option ℕ} None (Some 0) = e in absurd cc
none_left tokens (Some []) run e = terms_after-stacked tokens [] [] run
none_left tokens (Some (t ∷ s)) run e = absurd (omega (arith, some_is (suc (length s)) 0 e))

-- only no tokens leave no term
pub leaves-zero : (tokens : List Token) → leaves tokens ≡ Some 0 → tokens ≡ []
leaves-zero tokens e = none_left tokens (terms_after tokens []) refl e

one_left : (tokens : List Token) (o : Option (List Tree)) → terms_after tokens [] ≡ o → option_map length o ≡ Some 1 → LeaveOneTerm tokens
one_left tokens None run e = let bad : ◌≡◌ {A = Option ℕ} None (Some 1) = e in absurd cc
one_left tokens (Some []) run e = absurd (omega (arith, some_is 0 1 e))
one_left tokens (Some (t ∷ [])) run e = run ∙ ap (λ u. Some (u ∷ [])) (sym (ap the_only run))
one_left tokens (Some (t ∷ u ∷ s)) run e = absurd (omega (arith, some_is (suc (suc (length s))) 1 e))

pub leaves-one : (tokens : List Token) → leaves tokens ≡ Some 1 → LeaveOneTerm tokens
leaves-one tokens e = one_left tokens (terms_after tokens []) refl e

-- at least one token, which leave at most one term
pub leaves-few : (tokens : List Token) (n : ℕ) → leaves tokens ≡ Some n → n ≤ 1 → 0 < length tokens → LeaveOneTerm tokens
leaves-few tokens zero e few some = absurd (omega (arith, some, ap length (leaves-zero tokens e)))
leaves-few tokens (suc zero) e few some = leaves-one tokens e
leaves-few tokens (suc (suc n)) e few some = absurd (omega (arith, few))
