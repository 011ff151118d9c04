-- A word with a number after it, and addresses in hexadecimal without leading zeros.
use Rattle.std.specs.Prelude.{ℕ, zero, suc, ◌-◌, ◌*◌, [], ◌∷◌, ◌++◌, nat_lt, if◌then◌else◌}
use Rattle.std.specs.Int.{bytes_high_first}
use Rattle.std.specs.Fmt.{decimal}
use Rattle.hex.specs.Hex.{encode_upper}
use Rattle.mufom_text.specs.Words.{Text}

-- a word and a number
abbrev pub counted : Text → ℕ → Text
counted word n = word ++ decimal n

-- digits without leading zeros, of which at most this many are left out
abbrev pub without_zeros : ℕ → Text → Text
without_zeros zero digits = digits
without_zeros (suc count) [] = []
without_zeros (suc count) (digit ∷ digits) = if nat_lt 0x30 digit then digit ∷ digits else without_zeros count digits

-- an address in upper-case hexadecimal: two digits for each of the `maus` units, and more if the number needs them
abbrev pub hex : ℕ → ℕ → Text
hex maus a = without_zeros (16 - 2 * maus) (encode_upper (bytes_high_first 8 a))
