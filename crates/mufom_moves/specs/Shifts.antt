-- Extents of addresses whose bytes are moved, and the loaded bytes at their new addresses.
use Rattle.std.specs.Prelude.{◌≡◌, ℕ, ◌+◌, ◌-◌, ◌^◌, ◌<◌, ◌≤◌, List, [], ◌∷◌, map, Contains}
use Rattle.std.specs.Prelude.{Bool, ◌&&◌, nat_le, nat_lt, if◌then◌else◌}
use Rattle.mufom_meaning.specs.AddressMap.{Cell}
use Rattle.mufom_moves.specs.declared.shift.Shift.{Shift}

-- the extent has the address
abbrev pub HasAddress : Shift → ℕ → Type 0
HasAddress s a = (s.from ≤ a) × (a < s.from + s.size)

-- the same as a test
abbrev pub has_address : Shift → ℕ → Bool
has_address s a = nat_le s.from a && nat_lt a (s.from + s.size)

-- the address to which the byte at an address is moved: by the first extent that has the address, and where there is none the byte stays
abbrev pub shifted : List Shift → ℕ → ℕ
shifted [] a = a
shifted (s ∷ shifts) a = if has_address s a then s.to + (a - s.from) else shifted shifts a

-- a byte at the address to which it is moved
abbrev pub shifted_cell : List Shift → Cell → Cell
shifted_cell shifts cell = (shifted shifts cell.0, cell.1)

abbrev pub shifted_cells : List Shift → List Cell → List Cell
shifted_cells shifts cells = map (shifted_cell shifts) cells

-- two extents that have an address in common are the same
abbrev pub ShareNoAddress : List Shift → Type 0
ShareNoAddress shifts = (s t : Shift) (a : ℕ) → Contains shifts s → Contains shifts t → HasAddress s a → HasAddress t a → s ≡ t

-- two loaded bytes at different addresses are moved to different addresses
abbrev pub StayApart : List Shift → List Cell → Type 0
StayApart shifts cells = (x y : Cell) → Contains cells x → Contains cells y → shifted shifts x.0 ≡ shifted shifts y.0 → x.0 ≡ y.0

-- the extents are in the order of their first addresses, none of which is below the number
abbrev pub AreRisingFrom : ℕ → List Shift → Type 0
AreRisingFrom low [] = Unit {0}
AreRisingFrom low (s ∷ shifts) = (low ≤ s.from) × AreRisingFrom s.from shifts

-- from an address on, some extents move each byte as others do
abbrev pub MoveAlikeFrom : ℕ → List Shift → List Shift → Type 0
MoveAlikeFrom low shifts other = (a : ℕ) → low ≤ a → shifted shifts a ≡ shifted other a

-- the first extent, if there is one, ends after the address
abbrev pub EndsAfter : ℕ → List Shift → Type 0
EndsAfter a [] = Unit {0}
EndsAfter a (s ∷ shifts) = a < s.from + s.size

-- so many bytes from an address on are moved together, the first of them to this address
abbrev pub MoveTogether : List Shift → ℕ → ℕ → ℕ → Type 0
MoveTogether shifts a count to = (k : ℕ) → k < count → shifted shifts (a + k) ≡ to + k

-- the bytes from an address on and below another one are moved to addresses of 64 bits
abbrev pub StayLow : List Shift → ℕ → ℕ → Type 0
StayLow shifts low high = (a : ℕ) → low ≤ a → a < high → shifted shifts a < 2 ^ 64
