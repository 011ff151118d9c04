-- The contents of the map of a located list of modules.
use Rattle.std.specs.Prelude.{ℕ, ◌+◌, List, length, map, Bool, nat_le, Option, option_map, position, sum_by}
use Rattle.std.specs.List.{enumerate_from}
use Rattle.mufom_module.specs.declared.module.Parts.{Parts}
use Rattle.mufom_sections.specs.declared.section.Section.{Section}
use Rattle.mufom_plan.specs.declared.plan.Plan.{Plan}
use Rattle.mufom_plan.specs.declared.plan.Region.{Region}
use Rattle.mufom_plan.specs.Names.{listed_names}
use Rattle.mufom_place.specs.Bases.{site_by}
use Rattle.mufom_meaning.specs.declared.located.LocatedParts.{LocatedParts}
use Rattle.mufom_meaning.specs.declared.located.PublicValue.{PublicValue}
use Rattle.mufom_planned.specs.Layout.{Layout, layout, layout_placings, whole_list}
use Rattle.mufom_planned.specs.PlanSymbols.{with_symbols}
use Rattle.mufom_origins.specs.declared.origins.Origin.{Origin}
use Rattle.mufom_origins.specs.Origins.{FileModule, modules_of, origins_of}
use Rattle.mufom_origins.specs.Places.{module_in}
use Rattle.mufom_map.specs.Unused.{unused_entries}

-- A section, a common or a copy of a region: its number, its properties, its address and region, the position of its module, which only a
-- section has, and whether it is a copy.
pub record MappedSection : Type 0 where
  pub number : ℕ
  pub name : List ℕ
  pub size : ℕ
  pub align : ℕ
  pub base : ℕ
  pub region : Option ℕ
  pub origin : Option ℕ
  pub copy : Bool

-- a public with its value and the position of its module, which a symbol of the plan does not have
pub record MappedPublic : Type 0 where
  pub name : List ℕ
  pub value : ℕ
  pub origin : Option ℕ

-- the contents of a map: the modules, the regions, for each region the entries of its list that place no section, the sections followed by the
-- commons and the copies, by their numbers, the publics followed by the plan's symbols, by their positions, the start with the position of its
-- module, and the number of loaded bytes
pub record Mapped : Type 0 where
  pub maus : ℕ
  pub origins : List Origin
  pub regions : List Region
  pub unused : List (List (List ℕ))
  pub sections : List MappedSection
  pub publics : List MappedPublic
  pub start : Option (ℕ × Option ℕ)
  pub loaded : ℕ

-- the position from which on the list of a layout has copies
abbrev pub first_copy : Layout → ℕ
first_copy l = length l.sections + length l.commons

-- a section, a common or a copy of a layout, with its number
abbrev pub mapped_section : List Origin → Layout → ℕ × Section → MappedSection
mapped_section origins l s = let site = site_by (layout_placings l) s in record {
  number = s.0;
  name = s.1.name;
  size = s.1.size;
  align = s.1.align;
  base = site.base;
  region = site.region;
  origin = module_in (map (λ (o : Origin). o.sections) origins) s.0;
  copy = nat_le (first_copy l) s.0;
}

abbrev pub mapped_public : List Origin → ℕ × PublicValue → MappedPublic
mapped_public origins p = record { name = p.1.name; value = p.1.value; origin = module_in (map (λ (o : Origin). o.publics) origins) p.0 }

-- the contents of the map of this location, by the layout of a list whose modules have these origins
abbrev pub mapped_by : List Origin → Layout → LocatedParts → Mapped
mapped_by origins l r = record {
  maus = r.maus;
  origins = origins;
  regions = l.plan.regions;
  unused = map (unused_entries (listed_names l.plan.regions) l.sections) l.plan.regions;
  sections = map (mapped_section origins l) (enumerate_from 0 (whole_list l));
  publics = map (mapped_public origins) (enumerate_from 0 r.publics);
  start = option_map (λ (a : ℕ). (a, position (λ (o : Origin). o.has_start) origins)) r.start;
  loaded = sum_by (λ run. length run.bytes) r.runs;
}

-- the layout of a list by a plan, with the plan's symbols
abbrev pub planned_layout : List Parts → Plan → Layout
planned_layout ms plan = layout (with_symbols ms plan) plan

-- the contents of the map of a flat list at this location by the plan
abbrev pub mapped : List FileModule → Plan → LocatedParts → Mapped
mapped files plan r = mapped_by (origins_of files) (planned_layout (modules_of files) plan) r
