-- The part of a region that sections use, and the bar that shows it. All numbers are exact. A section is given by its extent: its base, its number
-- and its size.
use Rattle.std.specs.Prelude.{◌≡◌, ℕ, zero, suc, ◌+◌, ◌-◌, ◌*◌, ◌/◌, ◌==◌, max, min, List, [], ◌∷◌, ◌++◌, Bool, true, false, ◌&&◌, nat_le, nat_lt}
use Rattle.std.specs.Prelude.{if◌then◌else◌}
use Rattle.std.specs.List.{list_any}
use Rattle.mufom_plan.specs.declared.plan.Region.{Region}
use Rattle.mufom_place.specs.declared.placing.Extent.{Extent}

-- the number of a section's addresses from `from` up to, but not including, `to`
abbrev pub shared : ℕ → ℕ → Extent → ℕ
shared from to s = min (s.base + s.size) to - max s.base from

-- the number of addresses between two others that lie in a section; no address lies in two, since sections of a location do not overlap
abbrev pub used_between : ℕ → ℕ → List Extent → ℕ
used_between from to [] = 0
used_between from to (s ∷ sections) = shared from to s + used_between from to sections

-- the number of a region's addresses that lie in a section, whether or not the region placed that section
abbrev pub used_in : Region → List Extent → ℕ
used_in region sections = used_between region.base (region.base + region.size) sections

-- an address lies in a section
abbrev pub covers : ℕ → Extent → Bool
covers address s = nat_le s.base address && nat_lt address (s.base + s.size)

-- an address lies in one of the sections
abbrev pub is_covered : ℕ → List Extent → Bool
is_covered address sections = list_any (covers address) sections

-- how many of `count` addresses, from this one on, lie in a section
unfoldable pub covered_from : List Extent → ℕ → ℕ → ℕ
covered_from sections address zero = 0
covered_from sections address (suc count) = (if is_covered address sections then 1 else 0) + covered_from sections (address + 1) count

-- no address lies in two of the sections
abbrev pub ShareNoAddress : List Extent → Type 0
ShareNoAddress [] = Unit {0}
ShareNoAddress (s ∷ more) = ((address : ℕ) → covers address s ≡ true → is_covered address more ≡ false) × ShareNoAddress more

-- the number of cells of a bar
abbrev pub cell_count : ℕ
cell_count = 32

-- the first address of a cell; for the cell after the last, the region's end
abbrev pub cell_start : Region → ℕ → ℕ
cell_start region cell = region.base + (cell * region.size) / cell_count

-- the sign of a cell: `.` if none of its addresses is used, `#` if all are, and `+` otherwise
abbrev pub sign : ℕ → ℕ → ℕ
sign addresses used = if used == 0 then 0x2E else (if used == addresses then 0x23 else 0x2B)

abbrev pub cell_sign : Region → List Extent → ℕ → ℕ
cell_sign region sections cell = sign (cell_start region (cell + 1) - cell_start region cell)
    (used_between (cell_start region cell) (cell_start region (cell + 1)) sections)

-- the signs of `count` cells, from this one on
unfoldable pub signs_from : Region → List Extent → ℕ → ℕ → List ℕ
signs_from region sections zero cell = []
signs_from region sections (suc count) cell = cell_sign region sections cell ∷ signs_from region sections count (cell + 1)

-- the cells of a region in brackets
abbrev pub bar : Region → List Extent → List ℕ
bar region sections = 0x5B ∷ (signs_from region sections cell_count 0 ++ 0x5D ∷ [])
