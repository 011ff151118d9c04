-- Decimal digits, and the length of the front of a list that passes a test.
use Rattle.std.proofs.Common.{◌≡◌, ℕ, suc, ◌+◌, ◌*◌, ◌-◌, ◌^◌, ◌<◌, ◌≤◌, Bool, true, false, List, [], ◌∷◌, length, take, get_or, ap, ◌∙◌, refl, cond}
use Rattle.std.proofs.Common.{◌&&◌, drop, nat_lt, ◌==◌, arith}
use Rattle.std.proofs.lemmas.Bool.Decides.{nat_tests}
use Rattle.mufom_archive.specs.Names.{is_reference}
use Rattle.std.specs.Char.{digit_value, is_ascii_digit}
use Rattle.std.specs.List.{list_all, prefix_len}
use Rattle.std.specs.Str.Parse.{AllDigits, digits_value}
use Rattle.std.proofs.lemmas.Int.Digits.{digits_value_more}
use Rattle.std.proofs.lemmas.Str.{digit_value_digit}
use Rattle.std.proofs.lemmas.Str.Parse.{digit_at, digits_value-take-le, IsNumeralModel, digits_value_short}

-- decimal digits and their value, as std names them
pub own : IsNumeralModel (AllDigits 10) (digits_value 10)
own = record { to = λ ds h. h; from = λ ds h. h; same = λ ds h. refl }

pub next_value : (digits : List ℕ) (i number : ℕ) → AllDigits 10 digits → i < length digits → digits_value 10 (take i digits) ≡ number
    → digits_value 10 (take (i + 1) digits) ≡ number * 10 + (get_or digits i 0 - 48)
next_value digits i number all small same =
    let b = get_or digits i 0 in
    let value = digit_value_digit b (digit_at digits i all small) in
    let digit : digit_value b ≡ b - 48 = omega (arith, value) in
    digits_value_more 10 digits i small ∙ ap (λ n. n * 10 + digit_value b) same ∙ ap (λ d. number * 10 + d) digit

-- the value of the first digits, of at most fifteen
pub front_below : (digits : List ℕ) (i : ℕ) → AllDigits 10 digits → length digits ≤ 15 → digits_value 10 (take i digits) < 10 ^ 15
front_below digits i all few =
    let front = digits_value-take-le 10 digits i (omega arith) in
    let whole = digits_value_short own digits 15 all few in
    omega (arith, front, whole)

digit_of : (b : ℕ) → is_ascii_digit b ≡ true → digit_value b < 10
digit_of b h = grind (arith, nat_tests)

-- bytes that pass the test for decimal digits
pub are_digits : (digits : List ℕ) → list_all is_ascii_digit digits ≡ true → AllDigits 10 digits
are_digits [] h = tt
are_digits (b ∷ digits) h = by_case (is_ascii_digit b) refl h (are_digits digits) where
  by_case : (t : Bool) → is_ascii_digit b ≡ t → (t && list_all is_ascii_digit digits) ≡ true
      → (list_all is_ascii_digit digits ≡ true → AllDigits 10 digits) → AllDigits 10 (b ∷ digits)
  by_case true is rest further = (digit_of b is, further rest)
  by_case false is rest further = absurd (cc)

-- the digits at the start of a list are digits
pub front_digits : (bytes : List ℕ) → AllDigits 10 (take (prefix_len is_ascii_digit bytes) bytes)
front_digits [] = tt
front_digits (b ∷ bytes) = by_case (is_ascii_digit b) refl (front_digits bytes) where
  by_case : (t : Bool) → is_ascii_digit b ≡ t → AllDigits 10 (take (prefix_len is_ascii_digit bytes) bytes)
      → AllDigits 10 (take (cond t (1 + prefix_len is_ascii_digit bytes) 0) (b ∷ bytes))
  by_case true is rest = let e : 1 + prefix_len is_ascii_digit bytes ≡ suc (prefix_len is_ascii_digit bytes) = omega arith in rw e (digit_of b is, rest)
  by_case false is rest = tt

reference_digits : (b n : Bool) (digits : List ℕ) → (b && (n && list_all is_ascii_digit digits)) ≡ true → AllDigits 10 digits
reference_digits true true digits h = are_digits digits h
reference_digits true false digits h = absurd (cc)
reference_digits false n digits h = absurd (cc)

-- what follows the slash of a reference to the table of long names
pub reference : (name : List ℕ) → is_reference name ≡ true → AllDigits 10 (drop 1 name)
reference [] h = tt
reference (b ∷ digits) h = reference_digits (b == 47) (nat_lt 0 (length digits)) digits h
