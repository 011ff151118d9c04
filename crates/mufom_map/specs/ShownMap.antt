-- The contents of a map, as the code holds it.
use Rattle.std.specs.Prelude.{◌≡◌, ℕ, List, length, map, option_map, position, sum_by}
use Rattle.std.specs.List.{enumerate_from}
use Rattle.mufom_meaning.specs.declared.located.LocatedParts.{LocatedParts}
use Rattle.mufom_origins.specs.declared.origins.Origin.{Origin}
use Rattle.mufom_planned.specs.Layout.{Layout, whole_list}
use Rattle.mufom_map.specs.declared.entries.Entries.{Entries}
use Rattle.mufom_map.specs.declared.map.Map.{Map}
use Rattle.mufom_map.specs.Mapped.{Mapped, MappedPublic, MappedSection, mapped_public, mapped_section}
use Rattle.mufom_map.specs.Shown.{shown_sections}
use Rattle.mufom_map.specs.Unused.{missing_entries}

-- the sections, commons and copies
abbrev pub sections_of : Entries → List MappedSection
sections_of e = shown_sections e.origins.now e.section_regions.items e.first_copy e.sections.now

abbrev pub publics_of : Entries → List MappedPublic
publics_of e = map (mapped_public e.origins.now) (enumerate_from 0 e.publics.now)

-- the entries are those of this location, by the layout of a list whose modules have these origins
pub record AreEntriesOf (origins : List Origin) (l : Layout) (r : LocatedParts) (e : Entries) : Type 0 where
  pub maus : e.maus ≡ r.maus
  pub origins_are : e.origins.now ≡ origins
  pub located : e.sections.now ≡ r.sections
  pub publics_are : e.publics.now ≡ r.publics
  pub sections : sections_of e ≡ map (mapped_section origins l) (enumerate_from 0 (whole_list l))
  pub publics : publics_of e ≡ map (mapped_public origins) (enumerate_from 0 r.publics)

abbrev pub shown : Map → Mapped
shown m = record {
  maus = m.entries.maus;
  origins = m.entries.origins.now;
  regions = m.regions.now;
  unused = map (missing_entries m.placed) m.regions.now;
  sections = sections_of m.entries;
  publics = publics_of m.entries;
  start = option_map (λ (a : ℕ). (a, position (λ (o : Origin). o.has_start) m.entries.origins.now)) m.start;
  loaded = sum_by (λ run. length run.bytes) m.runs.now;
}
