-- The value of bytes, the most significant first, and its bounds.
use Rattle.std.proofs.Common.{ℕ, ◌+◌, ◌*◌, ◌^◌, ◌<◌, ◌≤◌, List, [], ◌∷◌, length, arith}
use Rattle.std.proofs.Math.Nat.{pow-succ', mul-le-mul_right}
use Rattle.mufom_numbers.specs.Spelling.{AreBytes, value_after, big_endian}

low_step : (v b p w : ℕ) → (256 * v + b) * p ≤ w → v * (256 * p) ≤ w
low_step v b p w h = omega arith

high_step : (v b p w : ℕ) → b < 256 → w < (256 * v + b + 1) * p → w < (v + 1) * (256 * p)
high_step v b p w byte h = omega (arith, mul-le-mul_right p byte)

-- bytes after v: at least v with a zero in place of each of the bytes, and below v + 1 so
pub value_after-low : (v : ℕ) (bytes : List ℕ) → v * 256 ^ length bytes ≤ value_after v bytes
value_after-low v [] = omega arith
value_after-low v (b ∷ bytes) = rw (pow-succ' 256 (length bytes)) (low_step v b (256 ^ length bytes) _ (value_after-low (256 * v + b) bytes))

pub value_after-high : (v : ℕ) (bytes : List ℕ) → AreBytes bytes → value_after v bytes < (v + 1) * 256 ^ length bytes
value_after-high v [] fits = omega arith
value_after-high v (b ∷ bytes) fits = rw (pow-succ' 256 (length bytes))
    (high_step v b (256 ^ length bytes) _ fits.0 (value_after-high (256 * v + b) bytes fits.1))

-- the value of k bytes is less than 256 ^ k
pub big_endian-below : (bytes : List ℕ) → AreBytes bytes → big_endian bytes < 256 ^ length bytes
big_endian-below bytes fits = omega (arith, value_after-high 0 bytes fits)
