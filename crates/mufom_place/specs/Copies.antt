-- The copies of regions. The bytes of a region that is loaded into another one are one more section there, its copy, after the
-- sections, the commons and the copies of earlier regions. All numbers are exact.
--
-- There are three lists: the sections of the modules, the commons, and the copies. Positions are those in the one list that has them
-- in this order. Copies do not move sections and commons: these are placed first.
use Rattle.std.specs.Prelude.{ℕ, ◌+◌, ◌-◌, ◌==◌, ◌^◌, max, List, [], ◌∷◌, ◌++◌, length, map, filter, Option, Some, None, option_map, option_and_then}
use Rattle.std.specs.Prelude.{slice_get, unwrap_or, Bool, true, false}
use Rattle.mufom_sections.specs.declared.section.Section.{Section}
use Rattle.mufom_plan.specs.declared.plan.Region.{Region}
use Rattle.mufom_plan.specs.declared.plan.Plan.{Plan}
use Rattle.mufom_plan.specs.Names.{listed_names, region_position}
use Rattle.mufom_place.specs.declared.placing.Placing.{Placing}
use Rattle.mufom_place.specs.declared.placing.RegionCopy.{RegionCopy}
use Rattle.mufom_place.specs.declared.refusal.PlaceRefusal.{PlaceRefusal}
use Rattle.mufom_place.specs.Bases.{numbered, aligned_up, placings, site_by}
use Rattle.mufom_place.specs.Facts.{◌or_else◌, first_some, unplaced_at, misfit_by, first_overlap, in_order, extents}

-- whether the section at a position has loaded bytes
abbrev pub HasBytes : Type 0
HasBytes = ℕ → Bool

-- the size of the section at a position
abbrev pub size_at : List Section → ℕ → ℕ
size_at sections n = unwrap_or (option_map (λ section. section.size) (slice_get sections n)) 0

-- the end of a placed section
abbrev pub placed_end : List Section → Placing → ℕ
placed_end sections p = p.base + size_at sections p.section

-- what a region places, among the bases that all regions give
abbrev pub placed_by : ℕ → List Placing → List Placing
placed_by region given = filter (λ p. p.region == region) given

-- the greatest of a number and others
abbrev pub greatest : ℕ → List ℕ → ℕ
greatest n [] = n
greatest n (m ∷ more) = greatest (max n m) more

-- the ends of what a region places
abbrev pub ends_in : List Section → ℕ → List Placing → List ℕ
ends_in sections region given = map (placed_end sections) (placed_by region given)

-- the section as which the bytes of a region are placed: it has the region's name, and is aligned to 8
abbrev pub copy_section : Region → ℕ → Section
copy_section region size = record { name = region.name; absolute = false; purpose = None; size = size; align = 8; base = None }

-- the copy of a region of this size, if it is loaded into another one, which is at the second position, and has bytes
abbrev pub copy_if : ℕ → Region → Option ℕ → Bool → ℕ → List RegionCopy
copy_if place region None has size = []
copy_if place region (Some holder) false size = []
copy_if place region (Some holder) true size = record { source = place; holder = holder; section = copy_section region size } ∷ []

-- there is a number
abbrev pub has_any : List ℕ → Bool
has_any [] = false
has_any (n ∷ more) = true

-- The copy of a region, from its base to the greatest of the ends of what it places and has bytes. There is none if the region is loaded
-- where it is, or if nothing that it places has bytes.
abbrev pub copy_with : ℕ → Region → Option ℕ → List ℕ → List RegionCopy
copy_with place region holder ends = copy_if place region holder (has_any ends) (greatest region.base ends - region.base)

-- the copies of regions, the first of which is at position n of all regions, given what regions place and what has bytes
abbrev pub copies_from : List Region → List Section → List Placing → ℕ → List Region → List RegionCopy
copies_from all sections loaded n [] = []
copies_from all sections loaded n (region ∷ regions) =
    copy_with n region (option_and_then (region_position all) region.load) (ends_in sections n loaded) ++ copies_from all sections loaded (n + 1) regions

-- the copies by a plan
abbrev pub copies : Plan → List Section → List Section → HasBytes → List RegionCopy
copies plan sections commons has_bytes =
    copies_from plan.regions (sections ++ commons) (filter (λ p. has_bytes p.section) (placings plan sections commons)) 0 plan.regions

-- the copies as sections
abbrev pub copy_sections : List RegionCopy → List Section
copy_sections copied = map (λ c. c.section) copied

-- all sections: those of the modules, the commons and the copies
abbrev pub all_sections : List Section → List Section → List RegionCopy → List Section
all_sections sections commons copied = (sections ++ commons) ++ copy_sections copied

-- the base of the region at a position
abbrev pub region_base : List Region → ℕ → ℕ
region_base regions n = unwrap_or (option_map (λ region. region.base) (slice_get regions n)) 0

-- up to where a region is filled: the greatest end of what it places, or its base if it places nothing
abbrev pub filled_to : List Region → List Section → List Placing → ℕ → ℕ
filled_to regions sections given region = greatest (region_base regions region) (ends_in sections region given)

-- the base of a copy, which has this position: after everything that its region places
abbrev pub copy_placing : List Region → List Section → List Placing → ℕ → RegionCopy → Placing
copy_placing regions sections given n c =
    record { section = n; region = c.holder; base = aligned_up c.section.align (filled_to regions sections given c.holder) }

-- the bases that the regions give, and after them those of copies, the first of which has this position; each goes after the earlier ones
abbrev pub with_copies : List Region → List Section → List Placing → ℕ → List RegionCopy → List Placing
with_copies regions sections given n [] = given
with_copies regions sections given n (c ∷ more) = with_copies regions sections (given ++ copy_placing regions sections given n c ∷ []) (n + 1) more

-- the bases that the regions give to sections and commons, and after them to copies
abbrev pub all_placings : Plan → List Section → List Section → List RegionCopy → List Placing
all_placings plan sections commons copied =
    with_copies plan.regions (all_sections sections commons copied) (placings plan sections commons) (length sections + length commons) copied

-- the bases of sections, one for each, by what regions give
abbrev pub bases_by : List Placing → List Section → List ℕ
bases_by given whole = map (λ s. (site_by given s).base) (numbered whole)

-- the first error of sections at these bases: the first misfit, or else the first overlap
abbrev pub fit_refusal : ℕ → List Region → List Placing → List Section → Option PlaceRefusal
fit_refusal width regions given whole = first_some (misfit_by (2 ^ width) regions given) (numbered whole)
    or_else first_overlap (in_order (extents (numbered whole) (bases_by given whole)))

-- the bases of all sections, one for each
abbrev pub all_bases : Plan → List Section → List Section → List RegionCopy → List ℕ
all_bases plan sections commons copied = bases_by (all_placings plan sections commons copied) (all_sections sections commons copied)

-- the error that is returned in place of these bases, if there is one: the same as without copies, over all sections
abbrev pub all_refusal : ℕ → Plan → List Section → List Section → List RegionCopy → Option PlaceRefusal
all_refusal width plan sections commons copied = first_some (unplaced_at (listed_names plan.regions)) (numbered sections)
    or_else fit_refusal width plan.regions (all_placings plan sections commons copied) (all_sections sections commons copied)
