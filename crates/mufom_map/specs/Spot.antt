-- The section, common or copy that holds an address, and the nearest public in it that is not above the address.
use Rattle.std.specs.Prelude.{ℕ, ◌+◌, ◌==◌, ◌&&◌, nat_le, nat_lt, max, Bool, List, map, filter, fold, Option, None, Some}
use Rattle.std.specs.List.{find}
use Rattle.mufom_map.specs.Mapped.{MappedPublic, MappedSection}

-- an address lies in a section with this base and size
abbrev pub lies_in : ℕ → ℕ → ℕ → Bool
lies_in base size address = nat_le base address && nat_lt address (base + size)

-- the section, common or copy that holds the address; in a location there is at most one
abbrev pub section_at : ℕ → List MappedSection → Option MappedSection
section_at address sections = find (λ (s : MappedSection). lies_in s.base s.size address) sections

-- a value is in the section with this base and size, and not above the address
abbrev pub is_below : (base size address : ℕ) → ℕ → Bool
is_below base size address value = lies_in base size value && nat_le value address

-- the greatest of numbers; 0 if there is none
abbrev pub greatest : List ℕ → ℕ
greatest numbers = fold max 0 numbers

-- a value is in the section and not above the address, and none of these values that are is greater
abbrev pub is_nearest : (base size address : ℕ) → List ℕ → ℕ → Bool
is_nearest base size address values value =
    is_below base size address value && (value == greatest (filter (is_below base size address) values))

-- the values of publics, in order
abbrev pub values_of : List MappedPublic → List ℕ
values_of publics = map (λ (p : MappedPublic). p.value) publics

-- The public with the greatest value that is not above the address and lies in the section; of equal values the first.
abbrev pub public_at : ℕ → MappedSection → List MappedPublic → Option MappedPublic
public_at address s publics = find (λ (p : MappedPublic). is_nearest s.base s.size address (values_of publics) p.value) publics

-- the same, if a section holds the address
abbrev pub public_below : ℕ → Option MappedSection → List MappedPublic → Option MappedPublic
public_below address None publics = None
public_below address (Some s) publics = public_at address s publics
