-- The values of options that are numbers: a byte, an address and a number of bytes in an address. Any other text is None.
use Rattle.std.specs.Prelude.{ℕ, ◌-◌, Bool, ◌&&◌, nat_le, nat_lt, [], ◌∷◌, length, Option, Some, None, if◌then◌else◌}
use Rattle.std.specs.List.{list_all}
use Rattle.std.specs.Char.{digit_value}
use Rattle.std.specs.Str.Parse.{digits_value}
use Rattle.mufom_words.specs.Options.{Text}

-- a digit of either case
abbrev pub is_hexadecimal : ℕ → Bool
is_hexadecimal b = nat_lt (digit_value b) 16

-- the number that hexadecimal digits state, if there are `least` to `most` of them
abbrev pub hexadecimal_of : ℕ → ℕ → Text → Option ℕ
hexadecimal_of least most word =
    if nat_le least (length word) && (nat_le (length word) most && list_all is_hexadecimal word) then Some (digits_value 16 word) else None

-- two hexadecimal digits
abbrev pub byte_of : Text → Option ℕ
byte_of word = hexadecimal_of 2 2 word

-- 1 to 16 hexadecimal digits
abbrev pub address_of : Text → Option ℕ
address_of word = hexadecimal_of 1 16 word

-- one decimal digit from 1 to 8
abbrev pub maus_of : Text → Option ℕ
maus_of [] = None
maus_of (digit ∷ []) = if nat_le 49 digit && nat_le digit 56 then Some (digit - 48) else None
maus_of (_ ∷ _ ∷ _) = None
