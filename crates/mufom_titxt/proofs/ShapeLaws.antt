-- Digits of numbers and of bytes.
use Rattle.std.proofs.Common.{◌≡◌, ℕ, zero, suc, ◌+◌, ◌*◌, ◌^◌, ◌<◌, List, [], ◌∷◌, length, get_or, take, drop, Bool, true, false, Some, option_map}
use Rattle.std.proofs.Common.{refl, ◌∙◌, ap, arith}
use Rattle.std.proofs.Math.Nat.{pow-le-pow_right}
use Rattle.std.specs.Prelude.{◌==◌}
use Rattle.std.specs.List.{position_or_len}
use Rattle.std.proofs.lemmas.Bool.{eqb-true}
use Rattle.std.proofs.lemmas.List.Sums.{position_or_len_is}
use Rattle.mufom_numbers.specs.Digits.{hex_digit}
use Rattle.mufom_titxt.specs.Lines.{byte_of, bytes_of, words_of}
use Rattle.mufom_titxt.proofs.LineLaws.{words_space, words_to_space}

-- a digit more
pub digit_room : (n d i : ℕ) → n < 16 ^ i → d < 16 → n * 16 + d < 16 ^ suc i
digit_room n d i low digit = omega (arith, low, digit)

-- sixteen digits fit
pub digits_fit : (n d i : ℕ) → n < 16 ^ i → d < 16 → i < 16 → n * 16 + d < 2 ^ 64
digits_fit n d i low digit few =
    let most = pow-le-pow_right {n = 16} (omega arith) {i = suc i} {j = 16} (omega arith) in omega (arith, digit_room n d i low digit, most)

-- ---- two digits and a space

-- a space is not a digit
no_space : (b d : ℕ) → hex_digit b ≡ Some d → (b == 32) ≡ false
no_space b d e = by_test (b == 32) refl where
  by_test : (t : Bool) → (b == 32) ≡ t → t ≡ false
  by_test true same = absurd (let none = ap hex_digit (eqb-true b 32 same) in cc (none, e))
  by_test false same = refl

module _ (high low a b : ℕ) (after : List ℕ) (is_high : hex_digit high ≡ Some a) (is_low : hex_digit low ≡ Some b) where
  abbrev line : List ℕ
  line = high ∷ low ∷ 32 ∷ after

  fails : (k : ℕ) → k < 2 → (get_or line k 0 == 32) ≡ false
  fails zero h = no_space high a is_high
  fails (suc zero) h = no_space low b is_low
  fails (suc (suc k)) h = absurd (omega (arith, h))

  place : position_or_len (λ c. c == 32) line ≡ 2
  place = position_or_len_is (λ c. c == 32) line 2 0 (omega arith) fails (λ less. refl)

  first_word : words_of line ≡ (high ∷ low ∷ []) ∷ words_of after
  first_word = words_to_space line (omega (arith, place)) (omega (arith, place))
      ∙ ap (λ n. take n line ∷ words_of (drop n line)) place
      ∙ ap (λ words. (high ∷ low ∷ []) ∷ words) (words_space after)

  byte : byte_of (high ∷ low ∷ []) ≡ Some (a * 16 + b)
  byte = rw (is_high, is_low) (ap (λ n. Some n) (omega arith))

  -- are the first byte of a line
  pub spaced_first : bytes_of (words_of line) ≡ option_map (λ bytes. (a * 16 + b) ∷ bytes) (bytes_of (words_of after))
  spaced_first = ap bytes_of first_word ∙ rw byte refl
