-- Up to where regions are filled, as it is kept for all of them.
use Rattle.std.specs.Prelude.{◌≡◌, ℕ, ◌+◌, ◌*◌, ◌<◌, ◌^◌, All, List, [], ◌∷◌, length, set, max, nat_lt, slice_index_or, if◌then◌else◌, Bool, true, false, ◌==◌}
use Rattle.std.specs.List.{list_any}
use Rattle.mufom_sections.specs.declared.section.Section.{Section}
use Rattle.mufom_plan.specs.declared.plan.Region.{Region}
use Rattle.mufom_place.specs.declared.placing.Placing.{Placing}
use Rattle.mufom_place.specs.declared.placing.RegionCopy.{RegionCopy}
use Rattle.mufom_place.specs.Facts.{IsAligned}
use Rattle.mufom_place.specs.Copies.{filled_to, size_at}

-- each number is that up to which the region at its position is filled, and there is one for each region
pub record AreFilled (regions : List Region) (sections : List Section) (given : List Placing) (ends : List ℕ) : Type 0 where
  pub count : length ends ≡ length regions
  pub each : (r : ℕ) → r < length regions → slice_index_or ends r 0 ≡ filled_to regions sections given r

-- the numbers, with the one at a position raised to another number; the same if there is none
abbrev pub raised : ℕ → ℕ → List ℕ → List ℕ
raised region end ends = if nat_lt region (length ends) then set ends region (max (slice_index_or ends region 0) end) else ends

-- each number is so low that its sum with a size does not overflow 128 bits, even after this many copies
abbrev pub AreLowEnds : ℕ → List ℕ → Type 0
AreLowEnds copies ends = All (λ end. end < 2 ^ 101 + copies * 2 ^ 65) ends

-- a copy is placed in one of the regions, and its section has an alignment of at least 1 and at most 2^31
pub record IsPlaceableCopy (regions : List Region) (c : RegionCopy) : Type 0 where
  pub held : c.holder < length regions
  pub aligned : IsAligned c.section

-- the sections from a position on have the sizes of these copies
abbrev pub AreSizedFrom : List Section → ℕ → List RegionCopy → Type 0
AreSizedFrom sections first [] = Unit {0}
AreSizedFrom sections first (c ∷ more) = (size_at sections first ≡ c.section.size) × AreSizedFrom sections (first + 1) more

-- the marks, with the one at a position set; the same if there is none
abbrev pub marked : ℕ → List Bool → List Bool
marked region marks = if nat_lt region (length marks) then set marks region true else marks

-- there is a mark for each of so many regions, which is set if the region places something
pub record AreMarked (count : ℕ) (given : List Placing) (marks : List Bool) : Type 0 where
  pub sized : length marks ≡ count
  pub each : (r : ℕ) → r < count → slice_index_or marks r false ≡ list_any (λ p. p.region == r) given
