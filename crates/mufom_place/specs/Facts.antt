-- The errors that keep sections and commons from being placed, and which of them is returned. There are two lists, the sections and
-- the commons; positions are those in the one list that has the commons after the sections.
use Rattle.std.specs.Prelude.{◌≡◌, ◌≢◌, ◌≤◌, ◌<◌, ◌⊎◌, ℕ, ◌+◌, ◌-◌, ◌%◌, ◌^◌, ◌==◌, List, [], ◌∷◌, ◌++◌, length, take, drop, Option, Some, None}
use Rattle.std.specs.Prelude.{slice_get, Bool, false, not, ◌&&◌, ◌||◌, nat_lt, nat_le, if◌then◌else◌}
use Rattle.mufom_numbers.specs.declared.limits.TheConstants.{MOST_ALIGNMENT}
use Rattle.mufom_sections.specs.declared.section.Section.{Section}
use Rattle.mufom_plan.specs.declared.plan.Region.{Region}
use Rattle.mufom_plan.specs.declared.plan.Plan.{Plan}
use Rattle.mufom_plan.specs.Names.{listed_names}
use Rattle.mufom_place.specs.declared.refusal.PlaceRefusal.{PlaceRefusal}
use Rattle.mufom_place.specs.declared.refusal.PlaceRefusal.TheVariants.{Unplaced, Misfit, Overlap, NoMemory}
use Rattle.mufom_place.specs.declared.placing.Placing.{Placing}
use Rattle.mufom_place.specs.declared.placing.AssignedBase.{AssignedBase}
use Rattle.mufom_place.specs.declared.placing.Extent.{Extent}
use Rattle.mufom_place.specs.Bases.{Numbered, numbered, has_no_base, is_listed, placings, site_by, site_of, bases}

-- an address has 8, 16, 24 and so on to 64 bits
pub record IsAddressWidth (width : ℕ) : Type 0 where
  pub least : 8 ≤ width
  pub most : width ≤ 64
  pub whole : width % 8 ≡ 0

-- an alignment is at least 1 and at most 2^31
pub record IsAligned (section : Section) : Type 0 where
  pub least : 1 ≤ section.align
  pub most : section.align ≤ MOST_ALIGNMENT

-- a common has no base of its own
abbrev pub HasNoBase : Section → Type 0
HasNoBase section = section.base ≡ None

-- of a list whose last `count` sections are commons: the sections, and the commons
abbrev pub sections_before : ℕ → List Section → List Section
sections_before count sections = take (length sections - count) sections

abbrev pub last_sections : ℕ → List Section → List Section
last_sections count sections = drop (length sections - count) sections

-- the error is the one that the definition gives, unless it is out of memory
abbrev pub IsAnswer : Option PlaceRefusal → PlaceRefusal → Type 0
IsAnswer answer refusal = refusal ≢ NoMemory → answer ≡ Some refusal

-- the first of two values that is present
infixr 20 ◌or_else◌
abbrev pub ◌or_else◌ : {A : Type 0} → Option A → Option A → Option A
(Some x) or_else other = Some x
None or_else other = other

abbrev pub first_some : {A B : Type 0} → (A → Option B) → List A → Option B
first_some f [] = None
first_some f (x ∷ xs) = f x or_else first_some f xs

-- a section without a base whose name no list of the plan matches
abbrev pub is_unplaced : List (List ℕ) → Section → Bool
is_unplaced listed section = has_no_base section && not (is_listed listed section.name)

abbrev pub unplaced_at : List (List ℕ) → Numbered → Option PlaceRefusal
unplaced_at listed s = if is_unplaced listed s.1 then Some (Unplaced s.0) else None

-- an end is above that of a region, if there is one
abbrev pub is_past_region : Option Region → ℕ → Bool
is_past_region None end = false
is_past_region (Some region) end = nat_lt (region.base + region.size) end

-- an end is above that of the region at a position
abbrev pub is_past : List Region → Option ℕ → ℕ → Bool
is_past regions None end = false
is_past regions (Some n) end = is_past_region (slice_get regions n) end

-- a section begins outside the address space, ends past its end, or ends past the end of the region that it is placed in
abbrev pub is_misfit : ℕ → List Region → AssignedBase → ℕ → Bool
is_misfit modulus regions site size = nat_le modulus site.base || nat_lt modulus (site.base + size) || is_past regions site.region (site.base + size)

abbrev pub misfit_with : ℕ → List Region → ℕ → ℕ → AssignedBase → Option PlaceRefusal
misfit_with modulus regions n size site = if is_misfit modulus regions site size then Some (Misfit n site.region) else None

abbrev pub misfit_by : ℕ → List Region → List Placing → Numbered → Option PlaceRefusal
misfit_by modulus regions given s = misfit_with modulus regions s.0 s.1.size (site_by given s)

abbrev pub misfit_at : ℕ → Plan → List Section → List Section → Numbered → Option PlaceRefusal
misfit_at modulus plan sections commons s = misfit_by modulus plan.regions (placings plan sections commons) s

-- the sections of positive size with their bases
abbrev pub extents : List Numbered → List ℕ → List Extent
extents [] placed = []
extents (s ∷ more) [] = []
extents (s ∷ more) (base ∷ placed) = if s.1.size == 0 then extents more placed else record { base = base; section = s.0; size = s.1.size } ∷ extents more placed

-- the order of sections: by base and, at the same base, by position
abbrev pub is_before : Extent → Extent → Bool
is_before x y = nat_lt x.base y.base || ((x.base == y.base) && nat_lt x.section y.section)

abbrev pub put_in_order : Extent → List Extent → List Extent
put_in_order x [] = x ∷ []
put_in_order x (y ∷ more) = if is_before x y then x ∷ y ∷ more else y ∷ put_in_order x more

-- in order of base and then of position
abbrev pub in_order : List Extent → List Extent
in_order [] = []
in_order (x ∷ more) = put_in_order x (in_order more)

-- the first two neighbours of which the second begins before the first ends
abbrev pub first_overlap : List Extent → Option PlaceRefusal
first_overlap [] = None
first_overlap (x ∷ []) = None
first_overlap (x ∷ y ∷ more) = if nat_lt y.base (x.base + x.size) then Some (Overlap x.section y.section) else first_overlap (y ∷ more)

-- the error that is returned in place of the bases, if there is one
abbrev pub place_refusal : ℕ → Plan → List Section → List Section → Option PlaceRefusal
place_refusal width plan sections commons =
    first_some (unplaced_at (listed_names plan.regions)) (numbered sections)
    or_else (first_some (misfit_at (2 ^ width) plan sections commons) (numbered (sections ++ commons))
    or_else first_overlap (in_order (extents (numbered (sections ++ commons)) (bases plan sections commons))))

-- The same errors as relations, which do not tell which of several errors is returned.

-- the section or common at a position is at a site
pub record IsAt (plan : Plan) (sections commons : List Section) (n : ℕ) (section : Section) (site : AssignedBase) : Type 0 where
  pub found : slice_get (sections ++ commons) n ≡ Some section
  pub placed : site ≡ site_of plan sections commons (n, section)

-- the section at a position has no base, and no list of the plan matches its name; a common needs no list
pub record IsUnplaced (plan : Plan) (sections : List Section) (n : ℕ) : Type 0 where
  pub section : Section
  pub found : slice_get sections n ≡ Some section
  pub without : section.base ≡ None
  pub unlisted : is_listed (listed_names plan.regions) section.name ≡ false

-- an end is above that of the region at a position
pub record EndsPast (regions : List Region) (n end : ℕ) : Type 0 where
  pub region : Region
  pub found : slice_get regions n ≡ Some region
  pub past : region.base + region.size < end

-- The section or common at a position begins outside the address space, ends past its end, or ends past the end of the region that
-- it is placed in. The region is None for a section with a base of its own.
pub record IsMisfit (modulus : ℕ) (plan : Plan) (sections commons : List Section) (n : ℕ) (region : Option ℕ) : Type 0 where
  pub section : Section
  pub site : AssignedBase
  pub at : IsAt plan sections commons n section site
  pub in_region : region ≡ site.region
  pub out : (modulus ≤ site.base) ⊎ ((modulus < site.base + section.size) ⊎ ((r : ℕ) × (region ≡ Some r) × EndsPast plan.regions r (site.base + section.size)))

-- an address lies in the section or common at a position
pub record Covers (plan : Plan) (sections commons : List Section) (n address : ℕ) : Type 0 where
  pub section : Section
  pub site : AssignedBase
  pub at : IsAt plan sections commons n section site
  pub above : site.base ≤ address
  pub below : address < site.base + section.size

-- two different sections or commons share an address, so neither of them is empty
pub record IsOverlap (plan : Plan) (sections commons : List Section) (m n : ℕ) : Type 0 where
  pub differ : m ≢ n
  pub address : ℕ
  pub first : Covers plan sections commons m address
  pub second : Covers plan sections commons n address

-- What keeps sections and commons from being placed. A misfit holds only if no section is unplaced, and an overlap only if no
-- section is unplaced and nothing is a misfit.
abbrev pub Stands : ℕ → Plan → List Section → List Section → PlaceRefusal → Type 0
Stands width plan sections commons (Unplaced n) = IsUnplaced plan sections n
Stands width plan sections commons (Misfit n region) = ((m : ℕ) → ¬ IsUnplaced plan sections m) × IsMisfit (2 ^ width) plan sections commons n region
Stands width plan sections commons (Overlap m n) =
    ((k : ℕ) → ¬ IsUnplaced plan sections k) × ((k : ℕ) (region : Option ℕ) → ¬ IsMisfit (2 ^ width) plan sections commons k region)
    × IsOverlap plan sections commons m n
Stands width plan sections commons NoMemory = ⊥
