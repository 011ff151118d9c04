-- The digits of bytes and addresses.
use Rattle.std.proofs.Common.{◌≡◌, ℕ, zero, suc, ◌+◌, ◌-◌, ◌≤◌, List, [], ◌∷◌, ◌++◌, drop, refl, sym, ap, ◌∙◌, arith, zero-add}
use Rattle.std.specs.Int.{bytes_high_first}
use Rattle.hex.specs.Hex.{encode_upper, encode_with}
use Rattle.mufom_text.specs.Words.{hex_bytes}
use Rattle.mufom_text.specs.Image.{address}

hex-digits : (bytes : List ℕ) → hex_bytes bytes ≡ encode_upper bytes
unfolding encode_with
hex-digits [] = refl
hex-digits (b ∷ bytes) = ap (λ digits. encode_upper (b ∷ []) ++ digits) (hex-digits bytes)

low-bytes : (k n a : ℕ) → drop k (bytes_high_first (k + n) a) ≡ bytes_high_first n a
low-bytes zero n a = ap (λ m. bytes_high_first m a) (zero-add n)
low-bytes (suc k) n a = let next : suc k + n ≡ suc (k + n) = omega arith in ap (λ m. drop (suc k) (bytes_high_first m a)) next ∙ low-bytes k n a

-- the last bytes of eight, in digits
pub address-digits : (maus a : ℕ) → maus ≤ 8 → hex_bytes (drop (8 - maus) (bytes_high_first 8 a)) ≡ address maus a
address-digits maus a few =
    let split : (8 - maus) + maus ≡ 8 = omega (arith, few) in
    ap (λ n. hex_bytes (drop (8 - maus) (bytes_high_first n a))) (sym split)
    ∙ ap hex_bytes (low-bytes (8 - maus) maus a) ∙ hex-digits (bytes_high_first maus a)
