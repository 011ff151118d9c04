-- The space that the sections placed in a region take, and the line of that region. All numbers are exact.
use Rattle.std.specs.Prelude.{ℕ, ◌+◌, ◌-◌, ◌==◌, max, List, [], ◌∷◌, ◌++◌, Option, Some, None, slice_get, codes, if◌then◌else◌}
use Rattle.mufom_sections.specs.declared.section.Section.{Section}
use Rattle.mufom_plan.specs.declared.plan.Region.{Region}
use Rattle.mufom_place.specs.declared.placing.Placing.{Placing}
use Rattle.mufom_planned.specs.Layout.{Layout, layout_placings, whole_list}
use Rattle.mufom_text.specs.Words.{Text, line, quoted}
use Rattle.mufom_text.specs.Digits.{counted, hex}

abbrev pub size_of : Option Section → ℕ
size_of None = 0
size_of (Some s) = s.size

-- the end of a section that the region with this position places, or 0 for a section of another region
abbrev pub end_in : List Section → ℕ → Placing → ℕ
end_in all region p = if p.region == region then p.base + size_of (slice_get all p.section) else 0

-- the greatest of these ends
abbrev pub greatest_end : List Section → ℕ → List Placing → ℕ
greatest_end all region [] = 0
greatest_end all region (p ∷ placed) = max (end_in all region p) (greatest_end all region placed)

-- the distance from a region's base to the greatest end of the sections, commons and copies that it places
abbrev pub taken_in : Layout → ℕ → Region → ℕ
taken_in l n region = greatest_end (whole_list l) n (layout_placings l) - region.base

abbrev pub region_line : ℕ → ℕ → Region → ℕ → Text
region_line maus n region taken = line (counted (codes "region ") n ++ (codes ": " ++ (quoted region.name ++ (codes " base " ++ (hex maus region.base
    ++ (counted (codes " size ") region.size ++ counted (codes ", its sections take ") taken))))))
