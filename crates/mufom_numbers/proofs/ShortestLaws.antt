-- What a writer writes is a spelling, and none is shorter.
use Rattle.std.proofs.Common.{◌≡◌, ℕ, zero, suc, ◌+◌, ◌-◌, ◌*◌, ◌^◌, ◌<◌, ◌≤◌, List, [], ◌∷◌, length, sub-one, refl, sym, ◌∙◌, inl, inr, arith}
use Rattle.std.proofs.lemmas.Bool.{cases_lt, le-ltb, lt-ltb}
use Rattle.std.proofs.lemmas.Nat.{from_be_bytes-to_be_bytes_8}
use Rattle.std.proofs.Math.Nat.{pow-le-pow_right}
use Rattle.std.specs.Int.{w64, to_be_bytes, bytes_high_first}
use Rattle.mufom_numbers.specs.Spelling.{AreBytes, SpellsNumber, NoneIsShorter, big_endian, without_leading_zeros, shortest_number}
use Rattle.mufom_numbers.proofs.Values.{value_after-low, big_endian-below}

-- ---- leading zeros state nothing

pub without_leading_zeros-value : (bytes : List ℕ) → big_endian (without_leading_zeros bytes) ≡ big_endian bytes
without_leading_zeros-value [] = refl
without_leading_zeros-value (zero ∷ bytes) = without_leading_zeros-value bytes
without_leading_zeros-value (suc b ∷ bytes) = refl

pub without_leading_zeros-bytes : (bytes : List ℕ) → AreBytes bytes → AreBytes (without_leading_zeros bytes)
without_leading_zeros-bytes [] fits = tt
without_leading_zeros-bytes (zero ∷ bytes) fits = without_leading_zeros-bytes bytes fits.1
without_leading_zeros-bytes (suc b ∷ bytes) fits = fits

pub without_leading_zeros-length : (bytes : List ℕ) → length (without_leading_zeros bytes) ≤ length bytes
without_leading_zeros-length [] = omega arith
without_leading_zeros-length (zero ∷ bytes) = omega (arith, without_leading_zeros-length bytes)
without_leading_zeros-length (suc b ∷ bytes) = omega arith

first : (b p w : ℕ) → (0 + suc b) * p ≤ w → p ≤ w
first b p w h = omega arith

-- a value above 0 is at least 256 to the power of k, where k bytes follow the first one that is not 0
pub without_leading_zeros-high : (bytes : List ℕ) → 0 < big_endian bytes → 256 ^ (length (without_leading_zeros bytes) - 1) ≤ big_endian bytes
without_leading_zeros-high [] some = absurd (omega arith)
without_leading_zeros-high (zero ∷ bytes) some = without_leading_zeros-high bytes some
without_leading_zeros-high (suc b ∷ bytes) some = rw sub-one (first b (256 ^ length bytes) _ (value_after-low (0 + suc b) bytes))

-- ---- the eight bytes of a number

pub bytes_high_first-bytes : (k n : ℕ) → AreBytes (bytes_high_first k n)
bytes_high_first-bytes zero n = tt
bytes_high_first-bytes (suc zero) n = (omega arith, tt)
bytes_high_first-bytes (suc (suc k)) n = (omega arith, bytes_high_first-bytes (suc k) n)

pub to_be_bytes-value : (n : ℕ) → n < 2 ^ 64 → big_endian (to_be_bytes w64 n) ≡ n
to_be_bytes-value n fits = omega (arith, from_be_bytes-to_be_bytes_8 n fits)

-- ---- the shortest spelling

pub shortest_number-spells : (n : ℕ) → n < 2 ^ 64 → SpellsNumber n (shortest_number n)
shortest_number-spells n fits = elim (cases_lt n 128) [
  | inl small ↦ rw (lt-ltb n 128 small) (inl (small, refl, refl))
  | inr large ↦
      let bytes = to_be_bytes w64 n in
      let few : length (without_leading_zeros bytes) ≤ 8 = without_leading_zeros-length bytes in
      let fit = without_leading_zeros-bytes bytes (bytes_high_first-bytes 8 n) in
      rw (le-ltb n 128 large) (inr (refl, few, fit, sym (without_leading_zeros-value bytes ∙ to_be_bytes-value n fits)))
]

-- if n needs k bytes, any bytes that spell n are at least k
needs : (j k n : ℕ) → n < 256 ^ j → 256 ^ (k - 1) ≤ n → k ≤ j
needs j k n below above = elim (cases_lt j k) [
  | inl fewer ↦ let more : 256 ^ j ≤ 256 ^ (k - 1) = pow-le-pow_right (omega arith) (omega arith) in absurd (omega arith)
  | inr enough ↦ enough
]

pub shortest_number-shortest : (n : ℕ) → n < 2 ^ 64 → NoneIsShorter (SpellsNumber n) (shortest_number n)
shortest_number-shortest n fits [] spells = absurd spells
shortest_number-shortest n fits (lead ∷ bytes) spells = elim (cases_lt n 128) [
  | inl small ↦ rw (lt-ltb n 128 small) (omega arith)
  | inr large ↦ rw (le-ltb n 128 large) (elim spells [
    | inl short ↦ absurd (omega (arith, short.0, short.2))
    | inr long ↦
        let bytes_of = to_be_bytes w64 n in
        let value = to_be_bytes-value n fits in
        let some : 0 < big_endian bytes_of = omega (arith, value) in
        let below : n < 256 ^ length bytes = omega (arith, long.3, big_endian-below bytes long.2) in
        let above : 256 ^ (length (without_leading_zeros bytes_of) - 1) ≤ n = omega (arith, value, without_leading_zeros-high bytes_of some) in
        omega (arith, needs (length bytes) (length (without_leading_zeros bytes_of)) n below above)
  ])
]
