-- The regions into which the bytes of other regions are loaded.
use Rattle.std.specs.Prelude.{◌≡◌, ℕ, List, Option, Some, None, is_none, position, slice_get, option_and_then, Bool, true, false, not}
use Rattle.mufom_plan.specs.declared.plan.Region.{Region}
use Rattle.mufom_plan.specs.Names.{region_position}

-- the region of this name
abbrev pub region_named : List Region → List ℕ → Option Region
region_named regions name = option_and_then (slice_get regions) (region_position regions name)

-- there is such a region, and its own bytes are loaded where they are
abbrev pub is_loaded_in_place : Option Region → Bool
is_loaded_in_place None = false
is_loaded_in_place (Some region) = is_none region.load

-- A region is loaded where it is, or into the region of a name. That one is loaded where it is, so it is another region.
abbrev pub is_load_of : List Region → Option (List ℕ) → Bool
is_load_of regions None = true
is_load_of regions (Some name) = is_loaded_in_place (region_named regions name)

-- the position of the first region that is loaded into no other region that may be
abbrev pub first_wrong_load : List Region → Option ℕ
first_wrong_load regions = position (λ region. not (is_load_of regions region.load)) regions

-- each region is loaded where it is, or into another region that is loaded where it is
abbrev pub AreLoads : List Region → Type 0
AreLoads regions = first_wrong_load regions ≡ None
