-- Hexadecimal digits alone are read as the number that they state.
use Rattle.std.proofs.Common.{◌≡◌, ℕ, ◌≤◌, ◌<◌, ◌^◌, ◌&&◌, ◌==◌, rules, drop, Bool, cond, true, false, nat_le, List, [], ◌∷◌, length, Result}
use Rattle.std.proofs.Common.{Ok, Err, Some, None, refl, ap, subst, arith}
use Rattle.std.specs.Char.{digit_value}
use Rattle.std.specs.List.{list_all}
use Rattle.std.specs.Result.{OkIff}
use Rattle.std.specs.Str.Parse.{AllDigits, IsNumeral, ParsesUnsigned, digits_value, without_leading_plus}
use Rattle.std.proofs.Math.Nat.{pow-le-pow_right}
use Rattle.std.proofs.lemmas.Bool.{ltb-true}
use Rattle.std.proofs.lemmas.Int.Digits.{digits_value-lt}
use Rattle.mufom_words.specs.Values.{hexadecimal_of, is_hexadecimal}

all_digits : (bs : List ℕ) → list_all is_hexadecimal bs ≡ true → AllDigits 16 bs
all_digits [] all = tt
all_digits (b ∷ bs) all = by (is_hexadecimal b) refl all (all_digits bs) where
  by : (t : Bool) → is_hexadecimal b ≡ t → (t && list_all is_hexadecimal bs) ≡ true → (list_all is_hexadecimal bs ≡ true → AllDigits 16 bs)
      → AllDigits 16 (b ∷ bs)
  by true is rest more = (ltb-true (digit_value b) 16 is, more rest)
  by false is rest more = absurd cc

no-plus-digit : digit_value 43 < 16 → ⊥
no-plus-digit less = omega (arith, less)

-- a plus is no digit
no_plus : (bs : List ℕ) → list_all is_hexadecimal bs ≡ true → without_leading_plus bs ≡ bs
no_plus [] all = refl
no_plus (b ∷ bs) all = by (b == 43) refl where
  by : (t : Bool) → (b == 43) ≡ t → drop (cond t 1 0) (b ∷ bs) ≡ b ∷ bs
  by true is =
      let plus : b ≡ 43 = search rules in
      let digit = (all_digits (b ∷ bs) all).0 in
      let no : digit_value 43 < 16 = subst (λ (x : ℕ). digit_value x < 16) plus digit in
      absurd (no-plus-digit no)
  by false is = refl

-- so the tests of a value hold
pub hexadecimal-is : (least most : ℕ) (bs : List ℕ) → least ≤ length bs → length bs ≤ most → list_all is_hexadecimal bs ≡ true
    → hexadecimal_of least most bs ≡ Some (digits_value 16 bs)
hexadecimal-is least most bs some within all =
    let low : nat_le least (length bs) ≡ true = search rules in
    let high : nat_le (length bs) most ≡ true = search rules in
    by (nat_le least (length bs)) (nat_le (length bs) most) (list_all is_hexadecimal bs) low high all where
      by : (a b c : Bool) → a ≡ true → b ≡ true → c ≡ true → cond (a && (b && c)) (Some (digits_value 16 bs)) None ≡ Some (digits_value 16 bs)
      by true true true x y z = refl
      by false b c x y z = absurd cc
      by true false c x y z = absurd cc
      by true true false x y z = absurd cc

pub below : (bs : List ℕ) (most : ℕ) → list_all is_hexadecimal bs ≡ true → length bs ≤ most → digits_value 16 bs < 16 ^ most
below bs most all within =
    let value = digits_value-lt 16 bs (all_digits bs all) in
    let power = pow-le-pow_right {n = 16} (omega arith) within in
    omega (arith, value, power)

pub read : {E : Type 0} (bs : List ℕ) (most : ℕ) (r : Result ℕ E) → ParsesUnsigned 64 16 bs r → list_all is_hexadecimal bs ≡ true → 1 ≤ length bs
    → length bs ≤ most → most ≤ 16
    → r ≡ Ok (digits_value 16 bs)
read {E = E} bs most r parses all some within fits =
    by r (subst (λ (l : List ℕ). OkIff r (IsNumeral 16 l × (digits_value 16 l < 2 ^ 64)) (digits_value 16 l)) (no_plus bs all) parses) where
      value : digits_value 16 bs < 2 ^ 64
      value = below bs 16 all (omega (arith, within, fits))

      by : (r : Result ℕ E) → OkIff r (IsNumeral 16 bs × (digits_value 16 bs < 2 ^ 64)) (digits_value 16 bs) → r ≡ Ok (digits_value 16 bs)
      by (Ok n) is = ap Ok is.1
      by (Err e) is = absurd (is ((omega (arith, some), all_digits bs all), value))
