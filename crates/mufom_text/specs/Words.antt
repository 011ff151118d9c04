-- The words of texts: names, numbers and bytes as they are printed.
use Rattle.std.specs.Prelude.{ℕ, zero, suc, ◌==◌, ◌&&◌, not, nat_le, Bool, List, [], ◌∷◌, ◌++◌, flat_map, codes, if◌then◌else◌}
use Rattle.std.specs.Fmt.{decimal}
use Rattle.hex.specs.Hex.{encode_upper}
-- the texts of a list's entries, each made from its position and itself; `each_from` counts positions from n
pub use Rattle.mufom_module.specs.Written.{each, each_from}

abbrev pub Text : Type 0
Text = List ℕ

-- a line ends with one byte 0A
abbrev pub line : Text → Text
line text = text ++ 10 ∷ []

-- the byte is printed as itself in a name: bytes 20 to 7E, except the quote and the backslash
abbrev pub stands_for_itself : ℕ → Bool
stands_for_itself b = nat_le 0x20 b && (nat_le b 0x7E && (not (b == 0x22) && not (b == 0x5C)))

-- a byte of a name: itself, or a backslash, `x` and two upper-case hexadecimal digits
abbrev pub quoted_byte : ℕ → Text
quoted_byte b = if stands_for_itself b then b ∷ [] else 0x5C ∷ 0x78 ∷ encode_upper (b ∷ [])

-- a name in double quotes
abbrev pub quoted : List ℕ → Text
quoted name = 0x22 ∷ (flat_map quoted_byte name ++ 0x22 ∷ [])

-- the numbers, each after a space
abbrev pub spaced_numbers : List ℕ → Text
spaced_numbers ns = flat_map (λ n. codes " " ++ decimal n) ns

-- bytes as upper-case hexadecimal digits, two for each
abbrev pub hex_bytes : List ℕ → Text
hex_bytes bytes = flat_map (λ b. encode_upper (b ∷ [])) bytes

-- two spaces for each open block
abbrev pub indent : ℕ → Text
indent zero = []
indent (suc depth) = indent depth ++ codes "  "
