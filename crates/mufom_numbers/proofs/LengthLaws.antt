-- The number of bytes of a number without leading zeros.
use Rattle.std.proofs.Common.{◌≡◌, ℕ, zero, suc, ◌+◌, ◌-◌, ◌*◌, ◌/◌, ◌^◌, ◌<◌, ◌≤◌, length, refl, sym, inl, inr, arith}
use Rattle.std.proofs.lemmas.Bool.{cases_lt}
use Rattle.std.proofs.lemmas.Nat.{leading_top, pow-add}
use Rattle.std.specs.Int.Count.{leading_of_zero}
use Rattle.std.proofs.Math.Nat.{pow-le-pow_right}
use Rattle.std.specs.Int.{w64, to_be_bytes, leading_zeros}
use Rattle.mufom_numbers.specs.Spelling.{without_leading_zeros}
use Rattle.mufom_numbers.proofs.Values.{big_endian-below}
use Rattle.mufom_numbers.proofs.ShortestLaws.{without_leading_zeros-bytes, without_leading_zeros-high, without_leading_zeros-value}
use Rattle.mufom_numbers.proofs.ShortestLaws.{bytes_high_first-bytes, to_be_bytes-value}

-- a byte is eight bits
bits_of_bytes : (k : ℕ) → 256 ^ k ≡ 2 ^ (8 * k)
bits_of_bytes zero = refl
bits_of_bytes (suc k) =
    let step : 2 ^ (8 * k + 8) ≡ 2 ^ (8 * k) * 2 ^ 8 = pow-add 2 (8 * k) 8 in
    let same : 8 * suc k ≡ 8 * k + 8 = omega arith in
    rw same (omega (arith, step, bits_of_bytes k))

-- if 2^i is at most n, and n is below 2^j, then i is less than j
between : (i j n : ℕ) → 2 ^ i ≤ n → n < 2 ^ j → i < j
between i j n above below = elim (cases_lt i j) [
  | inl less ↦ less
  | inr more ↦ let wide : 2 ^ j ≤ 2 ^ i = pow-le-pow_right (omega arith) more in absurd (omega arith)
]

count_of : (bytes unset j : ℕ) → unset + suc j ≡ 64 → j < 8 * bytes → 8 * (bytes - 1) < suc j → 8 - unset / 8 ≡ bytes
count_of bytes unset j whole below above = omega arith

pub significant-count : (n : ℕ) → n < 2 ^ 64 → 8 - leading_zeros w64 n / 8 ≡ length (without_leading_zeros (to_be_bytes w64 n))
significant-count zero fits = let none : leading_zeros w64 0 ≡ 64 = leading_of_zero 64 in rw none refl
significant-count (suc m) fits =
    let n = suc m in
    let bytes = to_be_bytes w64 n in
    let rest = without_leading_zeros bytes in
    let value = to_be_bytes-value n fits in
    let fit = without_leading_zeros-bytes bytes (bytes_high_first-bytes 8 n) in
    let below : n < 2 ^ (8 * length rest) = rw (sym (bits_of_bytes (length rest)))
    (omega (arith, value, without_leading_zeros-value bytes, big_endian-below rest fit)) in
    let above : 2 ^ (8 * (length rest - 1)) ≤ n = rw (sym (bits_of_bytes (length rest - 1)))
    (omega (arith, value, without_leading_zeros-high bytes (omega (arith, value)))) in
    let top = leading_top 64 n (omega arith) fits in
    let low : top.0 < 8 * length rest = between top.0 (8 * length rest) n top.2 below in
    let high : 8 * (length rest - 1) < suc top.0 = between (8 * (length rest - 1)) (suc top.0) n above top.3 in
    count_of (length rest) (leading_zeros w64 n) top.0 top.1 low high
