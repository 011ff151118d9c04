-- Digits that are written spell what they were written for.
use Rattle.std.proofs.Common.{◌≡◌, ℕ, zero, suc, ◌+◌, ◌-◌, ◌*◌, ◌/◌, ◌%◌, ◌^◌, ◌<◌, ◌≤◌, List, [], ◌∷◌, length, flat_map, Option, Some, Bool, true}
use Rattle.std.proofs.Common.{false, refl, sym, ◌∙◌, ap, arith}
use Rattle.std.specs.Prelude.{◌==◌, ◌&&◌, nat_lt, nat_le, if◌then◌else◌}
use Rattle.std.specs.Int.{w64, to_be_bytes}
use Rattle.std.specs.List.{AllByRecursion}
use Rattle.std.specs.Option.{option_and_then}
use Rattle.mufom_numbers.specs.Spelling.{AreBytes, value_after}
use Rattle.mufom_numbers.proofs.ShortestLaws.{bytes_high_first-bytes, to_be_bytes-value}
use Rattle.mufom_numbers.proofs.Choices.{equal_numbers}
use Rattle.mufom_numbers.specs.Digits.{hex_digit}
use Rattle.mufom_titxt.specs.Lines.{hex_after, address_of, byte_of}
use Rattle.mufom_titxt.specs.Written.{upper_digit, byte_digits, without_zeros, address_digits}

-- ---- a digit

both : (s t : Bool) (x y : Option ℕ) → s ≡ true → t ≡ true → (if s && t then x else y) ≡ x
both s t x y a b = rw (a, b) refl

below : (s t : Bool) (x y : Option ℕ) → s ≡ false → (if s && t then x else y) ≡ y
below s t x y e = rw e refl

decimal : (d : ℕ) → d < 10 → hex_digit (48 + d) ≡ Some d
decimal d h =
    let upper : nat_le 65 (48 + d) ≡ false = grind (arith, h) in
    let lower : nat_le 97 (48 + d) ≡ false = grind (arith, h) in
    let low : nat_le 48 (48 + d) ≡ true = grind arith in
    let high : nat_le (48 + d) 57 ≡ true = grind (arith, h) in
    let back : 48 + d - 48 ≡ d = omega arith in
    below (nat_le 65 (48 + d)) (nat_le (48 + d) 70) _ _ upper
    ∙ (below (nat_le 97 (48 + d)) (nat_le (48 + d) 102) _ _ lower
    ∙ (both (nat_le 48 (48 + d)) (nat_le (48 + d) 57) _ _ low high ∙ ap (λ n. Some n) back))

letter : (d : ℕ) → 10 ≤ d → d < 16 → hex_digit (55 + d) ≡ Some d
letter d most h =
    let low : nat_le 65 (55 + d) ≡ true = grind (arith, most) in
    let high : nat_le (55 + d) 70 ≡ true = grind (arith, h) in
    let back : 55 + d - 55 ≡ d = omega arith in
    both (nat_le 65 (55 + d)) (nat_le (55 + d) 70) _ _ low high ∙ ap (λ n. Some n) back

-- a digit spells its value
digit_back : (d : ℕ) → d < 16 → hex_digit (upper_digit d) ≡ Some d
digit_back d h = by_case (nat_lt d 10) refl where
  by_case : (t : Bool) → nat_lt d 10 ≡ t → hex_digit (if t then 48 + d else 55 + d) ≡ Some d
  by_case true e = decimal d (grind (arith, e))
  by_case false e = letter d (grind (arith, e)) h

-- a digit is neither a space, nor the end of a line, nor the mark of an address
pub digit_high : (d : ℕ) → d < 16 → 48 ≤ upper_digit d
digit_high d h = by_case (nat_lt d 10) where
  by_case : (t : Bool) → 48 ≤ (if t then 48 + d else 55 + d)
  by_case true = omega arith
  by_case false = omega arith

pub digit_unmarked : (d : ℕ) → d < 16 → (upper_digit d == 64) ≡ false
digit_unmarked d h = by_case (nat_lt d 10) refl where
  by_case : (t : Bool) → nat_lt d 10 ≡ t → ((if t then 48 + d else 55 + d) == 64) ≡ false
  by_case true e = grind (arith, e)
  by_case false e = grind (arith, e)

-- ---- bytes

-- a digit more
hex_step : (high d : ℕ) (digits : List ℕ) → d < 16 → hex_after high (upper_digit d ∷ digits) ≡ hex_after (high * 16 + d) digits
hex_step high d digits h = ap (option_and_then (λ e. hex_after (high * 16 + e) digits)) (digit_back d h)

-- the digits of bytes spell the number of the bytes
bytes_back : (bytes : List ℕ) (high : ℕ) → AreBytes bytes → hex_after high (flat_map byte_digits bytes) ≡ Some (value_after high bytes)
bytes_back [] high h = refl
bytes_back (b ∷ bytes) high h =
    let first : b / 16 < 16 = omega (arith, h.0) in
    let second : b % 16 < 16 = omega arith in
    let more : List ℕ = flat_map byte_digits bytes in
    let value : (high * 16 + b / 16) * 16 + b % 16 ≡ 256 * high + b = omega arith in
    hex_step high (b / 16) (upper_digit (b % 16) ∷ more) first
    ∙ (hex_step (high * 16 + b / 16) (b % 16) more second
    ∙ (ap (λ n. hex_after n more) value ∙ bytes_back bytes (256 * high + b) h.1))

-- the digits of a byte spell it
pub byte_back : (b : ℕ) → b < 256 → byte_of (byte_digits b) ≡ Some b
byte_back b h =
    let same : 256 * 0 + b ≡ b = omega arith in
    bytes_back (b ∷ []) 0 (h, tt) ∙ ap (λ n. Some n) same

-- ---- addresses

-- zeros at the front change nothing
zeros_back : (n : ℕ) (digits : List ℕ) → hex_after 0 (without_zeros n digits) ≡ hex_after 0 digits
zeros_back zero digits = refl
zeros_back (suc n) [] = refl
zeros_back (suc n) (d ∷ digits) = by_case (zeros_back n digits) (d == 48) refl where
  by_case : hex_after 0 (without_zeros n digits) ≡ hex_after 0 digits → (t : Bool) → (d == 48) ≡ t
      → hex_after 0 (if t then without_zeros n digits else d ∷ digits) ≡ hex_after 0 (d ∷ digits)
  by_case later true e = later ∙ sym (ap (λ x. hex_after 0 (x ∷ digits)) (equal_numbers d 48 e))
  by_case later false e = refl

-- no more than this many are left out
zeros_length : (n : ℕ) (digits : List ℕ) → (length (without_zeros n digits) ≤ length digits) × (length digits ≤ n + length (without_zeros n digits))
zeros_length zero digits = (omega arith, omega arith)
zeros_length (suc n) [] = (omega arith, omega arith)
zeros_length (suc n) (d ∷ digits) = by_case (zeros_length n digits) (d == 48) where
  by_case : (length (without_zeros n digits) ≤ length digits) × (length digits ≤ n + length (without_zeros n digits)) → (t : Bool)
      → (length (if t then without_zeros n digits else d ∷ digits) ≤ suc (length digits))
      × (suc (length digits) ≤ suc n + length (if t then without_zeros n digits else d ∷ digits))
  by_case later true = (omega (arith, later.0), omega (arith, later.1))
  by_case later false = (omega arith, omega arith)

-- what is left is digits
zeros_high : (n : ℕ) (digits : List ℕ) → AllByRecursion (λ c. 48 ≤ c) digits → AllByRecursion (λ c. 48 ≤ c) (without_zeros n digits)
zeros_high zero digits h = h
zeros_high (suc n) [] h = h
zeros_high (suc n) (d ∷ digits) h = by_case (zeros_high n digits h.1) (d == 48) where
  by_case : AllByRecursion (λ c. 48 ≤ c) (without_zeros n digits) → (t : Bool) → AllByRecursion (λ c. 48 ≤ c) (if t then without_zeros n digits else d ∷ digits)
  by_case later true = later
  by_case later false = h

bytes_high : (bytes : List ℕ) → AreBytes bytes → AllByRecursion (λ c. 48 ≤ c) (flat_map byte_digits bytes)
bytes_high [] h = tt
bytes_high (b ∷ bytes) h = (digit_high (b / 16) (omega (arith, h.0)), (digit_high (b % 16) (omega arith), bytes_high bytes h.1))

bytes_count : (bytes : List ℕ) → length (flat_map byte_digits bytes) ≡ 2 * length bytes
bytes_count [] = refl
bytes_count (b ∷ bytes) = omega (arith, bytes_count bytes)

-- the digits of an address
pub address_high : (a : ℕ) → AllByRecursion (λ c. 48 ≤ c) (address_digits a)
address_high a = zeros_high 12 (flat_map byte_digits (to_be_bytes w64 a)) (bytes_high (to_be_bytes w64 a) (bytes_high_first-bytes 8 a))

-- they spell it
pub address_back : (a : ℕ) → a < 2 ^ 64 → address_of (address_digits a) ≡ Some a
address_back a fits =
    let bytes : List ℕ = to_be_bytes w64 a in
    let digits : List ℕ = flat_map byte_digits bytes in
    let eight : length bytes ≡ 8 = refl in
    let count : length digits ≡ 16 = omega (arith, bytes_count bytes, eight) in
    let kept = zeros_length 12 digits in
    let some : nat_le 1 (length (address_digits a)) ≡ true = grind (arith, kept.1, count) in
    let few : nat_le (length (address_digits a)) 16 ≡ true = grind (arith, kept.0, count) in
    both (nat_le 1 (length (address_digits a))) (nat_le (length (address_digits a)) 16) _ _ some few
    ∙ (zeros_back 12 digits
    ∙ (bytes_back bytes 0 (bytes_high_first-bytes 8 a) ∙ ap (λ n. Some n) (to_be_bytes-value a fits)))
