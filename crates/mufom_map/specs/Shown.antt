-- The contents of the map of located sections, as the code has them: each section has its base, and its region and module are looked up.
use Rattle.std.specs.Prelude.{ℕ, ◌+◌, List, map, false, nat_le, Option, None, unwrap_or, slice_index_or}
use Rattle.std.specs.List.{enumerate_from}
use Rattle.mufom_sections.specs.declared.section.Section.{Section}
use Rattle.mufom_place.specs.declared.placing.Extent.{Extent}
use Rattle.mufom_origins.specs.declared.origins.Origin.{Origin}
use Rattle.mufom_origins.specs.Places.{module_in}
use Rattle.mufom_map.specs.Mapped.{MappedSection}

-- a common as it was before it was placed: it had no base
abbrev pub bare : Section → Section
bare section = record section { absolute = false; base = None }

-- the base of a located section
abbrev pub base_of : Section → ℕ
base_of section = unwrap_or section.base 0

abbrev pub end_of : Section → ℕ
end_of section = base_of section + section.size

abbrev pub section_extent : ℕ × Section → Extent
section_extent s = record { base = base_of s.1; section = s.0; size = s.1.size }

abbrev pub section_extents : List Section → List Extent
section_extents sections = map section_extent (enumerate_from 0 sections)

-- a located section with its number, given the regions of all sections, and the position from which on they are copies
abbrev pub shown_section : List Origin → List (Option ℕ) → ℕ → ℕ × Section → MappedSection
shown_section origins regions copies s = record {
  number = s.0;
  name = s.1.name;
  size = s.1.size;
  align = s.1.align;
  base = base_of s.1;
  region = slice_index_or regions s.0 None;
  origin = module_in (map (λ (o : Origin). o.sections) origins) s.0;
  copy = nat_le copies s.0;
}

-- all sections, with their numbers
abbrev pub shown_sections : List Origin → List (Option ℕ) → ℕ → List Section → List MappedSection
shown_sections origins regions copies sections = map (shown_section origins regions copies) (enumerate_from 0 sections)
