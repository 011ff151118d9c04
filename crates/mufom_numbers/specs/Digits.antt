-- Hexadecimal digits.
use Rattle.std.specs.Prelude.{ℕ, ◌-◌, ◌&&◌, nat_le, Option, Some, None, if◌then◌else◌}

-- the value of a hexadecimal digit, of either case: `A` to `F` are 65 to 70, `a` to `f` are 97 to 102, and `0` to `9` are 48 to 57
abbrev pub hex_digit : ℕ → Option ℕ
hex_digit b = if nat_le 65 b && nat_le b 70 then Some (b - 55)
    else if nat_le 97 b && nat_le b 102 then Some (b - 87)
    else if nat_le 48 b && nat_le b 57 then Some (b - 48) else None
