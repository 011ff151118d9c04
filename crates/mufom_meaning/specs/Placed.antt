-- The bases that a plan gives to the sections and commons of a list of modules (IEEE Std 695, commons).
use Rattle.std.specs.Prelude.{ℕ, List, [], ◌∷◌, ◌++◌, map, length, take, drop, max, Option, Some, None, false, if◌then◌else◌}
use Rattle.std.specs.Str.{bytes_eq}
use Rattle.mufom_sections.specs.declared.section.Section.{Section}
use Rattle.mufom_module.specs.declared.module.Parts.{Parts}
use Rattle.mufom_plan.specs.declared.plan.Plan.{Plan}
use Rattle.mufom_plan.specs.Commons.{has_common}
use Rattle.mufom_place.specs.Bases.{bases}
use Rattle.mufom_meaning.specs.Bases.{Bases}
use Rattle.mufom_meaning.specs.Flat.{distinct, flat_sections, commons, common_names}

-- the greatest size that weak references of this name request
abbrev pub greatest_size : List (List ℕ × ℕ) → List ℕ → ℕ
greatest_size [] name = 0
greatest_size (common ∷ more) name = if bytes_eq common.0 name then max common.1 (greatest_size more name) else greatest_size more name

-- the section as which a common is placed: it is not absolute, has the greatest size for its name, and is aligned to 8
abbrev pub common_section : List (List ℕ × ℕ) → List ℕ → Section
common_section asked name = record { name = name; absolute = false; purpose = None; size = greatest_size asked name; align = 8; base = None }

-- a section for each name of a common, in the order in which the names first appear
abbrev pub common_sections : List Parts → List Section
common_sections ms = map (common_section (commons ms)) (distinct bytes_eq (common_names ms))

-- the commons that the plan places: all of them if a region takes commons, and none if no region does
abbrev pub placed_commons : List Parts → Plan → List Section
placed_commons ms plan = if has_common plan.regions then common_sections ms else []

-- all sections that the plan places, the commons after the sections of the modules
abbrev pub extended_sections : List Parts → Plan → List Section
extended_sections ms plan = flat_sections ms ++ placed_commons ms plan

-- the bases of all these sections, one for each
abbrev pub base_list : List Parts → Plan → List ℕ
base_list ms plan = bases plan (flat_sections ms) (placed_commons ms plan)

-- the base of the first section of this name, if the sections are at these bases, one for each
abbrev pub base_named : List Section → List ℕ → List ℕ → Option ℕ
base_named [] placed name = None
base_named (section ∷ sections) [] name = None
base_named (section ∷ sections) (base ∷ placed) name = if bytes_eq section.name name then Some base else base_named sections placed name

-- the first of these bases belong to the sections of the modules, by their flat numbers, and the others to the commons
abbrev pub planned_bases : List Parts → Plan → Bases
planned_bases ms plan = let count = length (flat_sections ms) in record {
  sections = take count (base_list ms plan);
  commons = base_named (placed_commons ms plan) (drop count (base_list ms plan));
}
