-- The lines that say what the numbers of an error line refer to: a file, the plan, a module, a section, a common or the copy of a region.
use Rattle.std.specs.Prelude.{ℕ, List, [], ◌++◌, map, Option, Some, None, Bool, ◌&&◌, slice_get, codes, if◌then◌else◌}
use Rattle.std.specs.List.{list_any}
use Rattle.std.specs.Str.{bytes_eq}
use Rattle.mufom_sections.specs.declared.section.Section.{Section}
use Rattle.mufom_names.specs.declared.name.Reference.{Reference}
use Rattle.mufom_module.specs.declared.module.Parts.{Parts}
use Rattle.mufom_place.specs.declared.placing.RegionCopy.{RegionCopy}
use Rattle.mufom_meaning.specs.Flat.{is_common}
use Rattle.mufom_text.specs.Words.{Text, each, line, quoted}
use Rattle.mufom_origins.specs.declared.origins.Origin.{Origin}
use Rattle.mufom_origins.specs.Origins.{FileModule}
use Rattle.mufom_origins.specs.Places.{module_in}
use Rattle.mufom_text.specs.Digits.{counted, hex}
-- a module by its position in the flat list, with the number of its file and its name
pub use Rattle.mufom_origins.specs.Words.{FileNames, ModuleFiles, file_name, module_text}

-- ---- files

abbrev pub file_line : FileNames → ℕ → Text
file_line names n = line (counted (codes "file ") n ++ (codes ": " ++ quoted (file_name names n)))

abbrev pub plan_line : List ℕ → Text
plan_line name = line (codes "plan: " ++ quoted name)

-- ---- modules

abbrev pub module_line : ModuleFiles → ℕ → FileModule → Text
module_line names j f = line (module_text names j f.0 f.1.name)

-- ---- sections

abbrev pub base_text : ℕ → Option ℕ → Text
base_text maus None = []
base_text maus (Some base) = codes " base " ++ hex maus base

-- the module at this position, after a comma
abbrev pub origin_text : ModuleFiles → ℕ → Option Origin → Text
origin_text names j None = []
origin_text names j (Some o) = codes ", " ++ module_text names j o.place o.name

-- the same, if there is a position
abbrev pub place_text : ModuleFiles → List Origin → Option ℕ → Text
place_text names origins None = []
place_text names origins (Some j) = origin_text names j (slice_get origins j)

-- the description of a section or a common, after a word and its number
abbrev pub described : Text → ℕ → Section → Text
described word n s = counted word n ++ (codes ": " ++ (quoted s.name ++ (counted (codes " size ") s.size ++ counted (codes " align ") s.align)))

-- the line of a section with its number; the modules have these origins
abbrev pub section_line : ℕ → ModuleFiles → List Origin → ℕ → Section → Text
section_line maus names origins n s = line (described (codes "section ") n s
    ++ (base_text maus s.base ++ place_text names origins (module_in (map (λ (o : Origin). o.sections) origins) n)))

-- ---- copies of regions

-- the line of the copy of a region with its number; the region is given by its position
abbrev pub copy_line : ℕ → RegionCopy → Text
copy_line n c = line (described (codes "copy ") n c.section ++ counted (codes ", of region ") c.source)

-- the same, if there is a copy
abbrev pub copied_line : ℕ → Option RegionCopy → Text
copied_line n None = []
copied_line n (Some c) = copy_line n c

-- ---- commons

-- a weak reference with the name requests space
abbrev pub asks_by : List ℕ → Reference → Bool
asks_by name r = is_common r && bytes_eq r.name name

-- a weak reference of the module does
abbrev pub asks_for : List ℕ → Parts → Bool
asks_for name m = list_any (asks_by name) m.names.references

abbrev pub asking_line : ModuleFiles → List ℕ → ℕ → FileModule → Text
asking_line names name j f = if asks_for name f.1 then codes "  " ++ module_line names j f else []

-- a common with its number, and the modules of the flat list that request space for it
abbrev pub common_lines : ModuleFiles → List FileModule → ℕ → Section → Text
common_lines names flat n s =
    line (described (codes "common ") n s) ++ each (asking_line names s.name) flat
