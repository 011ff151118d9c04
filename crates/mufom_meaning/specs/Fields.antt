-- The bytes of a field, and the values that it can hold (IEEE Std 695, load with relocation).
use Rattle.std.specs.Prelude.{ℕ, zero, suc, ◌+◌, ◌-◌, ◌%◌, ◌/◌, ◌^◌, List, [], ◌∷◌, Bool, ◌||◌, nat_lt, nat_le, if◌then◌else◌, reverse}
use Rattle.mufom_expr.specs.declared.token.FieldKind.{FieldKind}
use Rattle.mufom_expr.specs.declared.token.FieldKind.TheVariants.{Signed, Unsigned, Either}
use Rattle.mufom_module.specs.declared.module.Order.{Order}
use Rattle.mufom_module.specs.declared.module.Order.TheVariants.{Least, Most}

-- A residue fits as a signed number, which is the residue itself if that is below half of the address space, and the residue minus
-- the address space otherwise. The number must be at least minus half of 256 ^ size, and below half of 256 ^ size.
abbrev pub fits_signed : ℕ → ℕ → ℕ → Bool
fits_signed modulus size v =
    if nat_lt (v + v) modulus then nat_lt (v + v) (256 ^ size) else nat_le ((modulus - v) + (modulus - v)) (256 ^ size)

-- a field of `size` bytes can hold the value
abbrev pub fits : ℕ → FieldKind → ℕ → ℕ → Bool
fits modulus Signed size v = fits_signed modulus size v
fits modulus Unsigned size v = nat_lt v (256 ^ size)
fits modulus Either size v = fits_signed modulus size v || nat_lt v (256 ^ size)

-- `size` bytes of a number, the least significant first
abbrev pub number_bytes : ℕ → ℕ → List ℕ
number_bytes zero v = []
number_bytes (suc size) v = (v % 256) ∷ number_bytes size (v / 256)

-- bytes, given with the least significant first, in the byte order of a module
abbrev pub in_byte_order : Order → List ℕ → List ℕ
in_byte_order Least bytes = bytes
in_byte_order Most bytes = reverse bytes

-- the number that a field's bytes spell: for a signed field the two's complement of the value, sign-extended if the field
-- is wider than an address
abbrev pub field_number : ℕ → FieldKind → ℕ → ℕ → ℕ
field_number modulus Signed size v = if nat_lt (v + v) modulus then v else 256 ^ size - (modulus - v)
field_number modulus Unsigned size v = v
field_number modulus Either size v = v % 256 ^ size

-- the bytes of a field that holds a value
abbrev pub field_bytes : Order → ℕ → FieldKind → ℕ → ℕ → List ℕ
field_bytes order modulus kind size v = in_byte_order order (number_bytes size (field_number modulus kind size v))
