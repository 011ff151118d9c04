-- Up to where the regions of a plan are filled, with copies of any size.
use Rattle.std.specs.Prelude.{ℕ, ◌+◌, ◌<◌, All, List, ◌++◌, length, set, Option, Some, None, option_and_then, slice_index_or, Bool, if◌then◌else◌}
use Rattle.mufom_sections.specs.declared.section.Section.{Section}
use Rattle.mufom_plan.specs.declared.plan.Region.{Region}
use Rattle.mufom_plan.specs.Names.{region_position}
use Rattle.mufom_place.specs.declared.placing.Placing.{Placing}
use Rattle.mufom_place.specs.declared.placing.RegionCopy.{RegionCopy}
use Rattle.mufom_place.specs.Bases.{aligned_up}
use Rattle.mufom_place.specs.Copies.{copies_from, copy_sections, with_copies}
use Rattle.mufom_place.specs.Filling.{AreFilled}
use Rattle.mufom_planned.specs.Layout.{Layout, layout_placings, whole_list}

-- each number is that up to which sections, commons and copies fill the region at its position
abbrev pub AreEnds : Layout → List ℕ → Type 0
AreEnds l ends = AreFilled l.plan.regions (whole_list l) (layout_placings l) ends

-- what is placed are some of these sections and commons
abbrev pub ArePlain : List Section → List Placing → Type 0
ArePlain plain placings = All (λ p. p.section < length plain) placings

-- the region that holds the copy of a region, if there is a copy
abbrev pub copy_holder : List Region → Region → Bool → Option ℕ
copy_holder regions region has_bytes = if has_bytes then option_and_then (region_position regions) region.load else None

-- the ends of regions, with a copy of this size in the region that holds it, if one does
abbrev pub with_copy_end : Option ℕ → ℕ → List ℕ → List ℕ
with_copy_end None size ends = ends
with_copy_end (Some holder) size ends = set ends holder (aligned_up 8 (slice_index_or ends holder 0) + size)

-- the copies of regions, given the sections and commons, and which of them are placed and have bytes
abbrev pub copies_by : List Region → List Section → List Placing → List RegionCopy
copies_by regions plain loaded = copies_from regions plain loaded 0 regions

-- sections, commons and copies
abbrev pub copied_whole : List Region → List Section → List Placing → List Section
copied_whole regions plain loaded = plain ++ copy_sections (copies_by regions plain loaded)

-- what is placed, with the copies
abbrev pub placed_with_copies : List Region → List Section → List Placing → List Placing → List Placing
placed_with_copies regions plain placings loaded =
    with_copies regions (copied_whole regions plain loaded) placings (length plain) (copies_by regions plain loaded)
