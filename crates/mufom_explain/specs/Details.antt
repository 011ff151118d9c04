-- The lines that follow an error line of linking or locating. They say what the numbers and names in it refer to.
use Rattle.std.specs.Prelude.{ℕ, ◌+◌, ◌-◌, List, [], ◌∷◌, ◌++◌, filter, find, flat_map, length, position, codes}
use Rattle.std.specs.Prelude.{take, Option, Some, None, option_to_list, Bool, false, not, is_some, nat_le, slice_get, if◌then◌else◌}
use Rattle.std.specs.Str.{bytes_eq}
use Rattle.std.specs.List.{enumerate_from}
use Rattle.mufom_sections.specs.declared.section.Section.{Section}
use Rattle.mufom_module.specs.declared.module.Parts.{Parts}
use Rattle.mufom_plan.specs.declared.plan.Plan.{Plan}
use Rattle.mufom_plan.specs.declared.plan.Region.{Region}
use Rattle.mufom_plan.specs.Names.{has_name}
use Rattle.mufom_place.specs.declared.refusal.PlaceRefusal.{PlaceRefusal}
use Rattle.mufom_place.specs.declared.refusal.PlaceRefusal.TheVariants as place
use Rattle.mufom_refusals.specs.declared.link.LinkRefusal.{LinkRefusal}
use Rattle.mufom_refusals.specs.declared.link.LinkRefusal.TheVariants as link
use Rattle.mufom_refusals.specs.declared.locate.LocateRefusal.{LocateRefusal}
use Rattle.mufom_refusals.specs.declared.locate.LocateRefusal.TheVariants as locate
use Rattle.mufom_meaning.specs.declared.located.Site.{Site}
use Rattle.mufom_meaning.specs.declared.located.Site.TheVariants as site
use Rattle.mufom_meaning.specs.Flat.{common_names, flat_sections, needs}
use Rattle.mufom_meaning.specs.LinkAnswer.{same_descriptor}
use Rattle.mufom_meaning.specs.Placed.{placed_commons}
use Rattle.mufom_text.specs.Words.{Text, line, quoted}
use Rattle.mufom_text.specs.Digits.{counted}
use Rattle.mufom_origins.specs.declared.origins.Origin.{Origin}
use Rattle.mufom_origins.specs.Origins.{FileModule}
use Rattle.mufom_expr.specs.Tree.{Tree}
use Rattle.mufom_field_values.specs.Fields.{field_of}
use Rattle.mufom_field_values.specs.Lines.{value_lines}
use Rattle.mufom_planned.specs.Layout.{Layout, layout}
use Rattle.mufom_place.specs.declared.placing.RegionCopy.{RegionCopy}
use Rattle.mufom_explain.specs.Lines.{ModuleFiles, common_lines, copied_line, module_line, section_line}
use Rattle.mufom_explain.specs.Mentions.{mention_text}
use Rattle.mufom_explain.specs.Region.{region_line, taken_in}

-- ---- linking

-- the lines of modules at their positions
abbrev pub listed : ModuleFiles → List (ℕ × FileModule) → Text
listed names modules = flat_map (λ p. module_line names p.0 p.1) modules

-- the module's descriptor is not that of the first
abbrev pub differs_from : List FileModule → ℕ × FileModule → Bool
differs_from [] p = false
differs_from (first ∷ rest) p = not (same_descriptor first.1 p.1.1)

abbrev pub has_start : ℕ × FileModule → Bool
has_start p = is_some p.1.1.start

-- the first module
abbrev pub first_line : ModuleFiles → List FileModule → Text
first_line names flat = listed names (take 1 (enumerate_from 0 flat))

-- the first module with another descriptor
abbrev pub other_line : ModuleFiles → List FileModule → Text
other_line names flat = listed names (option_to_list (find (differs_from flat) (enumerate_from 0 flat)))

-- the first module, and the first with another descriptor
abbrev pub mismatch_lines : ModuleFiles → List FileModule → Text
mismatch_lines names flat = first_line names flat ++ other_line names flat

-- the first two modules with a start
abbrev pub start_lines : ModuleFiles → List FileModule → Text
start_lines names flat = listed names (take 2 (filter has_start (enumerate_from 0 flat)))

-- The lines after the error line of a list of modules that cannot be linked.
abbrev pub link_details : ModuleFiles → List FileModule → LinkRefusal → Text
link_details names flat (link.Mismatch first other) = mismatch_lines names flat
link_details names flat (link.Duplicate name) = mention_text names flat (name ∷ [])
link_details names flat link.DuplicateStart = start_lines names flat
link_details names flat link.NoMemory = []

-- ---- a name that should be kept

-- The lines after the error line of a name that no module defines: the modules that refer to it.
abbrev pub name_details : ModuleFiles → List FileModule → List ℕ → Text
name_details names flat name = mention_text names flat (name ∷ [])

-- ---- a name that a symbol of the plan shares with a public

-- the line of the symbol with a position
abbrev pub symbol_line : List ℕ → ℕ → Text
symbol_line name n = line (quoted name ++ (counted (codes ": symbol ") n ++ codes " of the plan"))

-- the line of the first symbol with this name, if there is one
abbrev pub symbol_lines : List ℕ → Option ℕ → Text
symbol_lines name None = []
symbol_lines name (Some n) = symbol_line name n

-- The lines after the error line of a name that a symbol of the plan shares with a public: the symbol, and the modules that mention the name.
abbrev pub shared_details : ModuleFiles → List FileModule → Plan → List ℕ → Text
shared_details names flat plan name =
    symbol_lines name (position (λ symbol. bytes_eq symbol.name name) plan.symbols) ++ mention_text names flat (name ∷ [])

-- ---- locating

-- The context in which an error of locating is explained: the files of all modules, the flat list, the origins of the located entries, the length of an
-- address in units, the located modules (the flat list, its link, or what is kept of the link, with the plan's symbols), the one module that is located
-- for them, that module without the plan's symbols, which has the expressions that are shown, and the plan.
pub record Explained : Type 0 where
  pub names : ModuleFiles
  pub flat : List FileModule
  pub origins : List Origin
  pub maus : ℕ
  pub modules : List Parts
  pub «module» : Parts
  pub own : Parts
  pub plan : Plan

abbrev pub sections_of : Explained → List Section
sections_of e = flat_sections e.modules

abbrev pub commons_of : Explained → List Section
commons_of e = placed_commons e.modules e.plan

-- the lines of the section with a number, or otherwise of the common
abbrev pub numbered_lines : Explained → ℕ → Option Section → Option Section → Text
numbered_lines e n (Some s) common = section_line e.maus e.names e.origins n s
numbered_lines e n None (Some s) = common_lines e.names e.flat n s
numbered_lines e n None None = []

-- the lines of the section or common with a number; the commons are numbered after the sections
abbrev pub entry_lines : Explained → ℕ → Text
entry_lines e n = numbered_lines e n (slice_get (sections_of e) n) (slice_get (commons_of e) (n - length (sections_of e)))

-- what the plan places
abbrev pub layout_of : Explained → Layout
layout_of e = layout e.modules e.plan

-- the copy with a number; copies are numbered after the commons
abbrev pub numbered_copy : ℕ → List RegionCopy → ℕ → Option RegionCopy
numbered_copy first copied n = if nat_le first n then slice_get copied (n - first) else None

-- the lines of the section, common or copy with a number, given the copies
abbrev pub lines_among : Explained → List RegionCopy → ℕ → Text
lines_among e copied n = entry_lines e n ++ copied_line n (numbered_copy (length (sections_of e) + length (commons_of e)) copied n)

abbrev pub placed_lines : Explained → ℕ → Text
placed_lines e n = lines_among e (layout_of e).copied n

abbrev pub region_at : Explained → ℕ → Option Region → Text
region_at e n None = []
region_at e n (Some region) = region_line e.maus n region (taken_in (layout_of e) n region)

-- the line of the region with a number, if there is one
abbrev pub region_lines : Explained → Option ℕ → Text
region_lines e None = []
region_lines e (Some n) = region_at e n (slice_get e.plan.regions n)

abbrev pub placement_details : Explained → PlaceRefusal → Text
placement_details e (place.Unplaced n) = entry_lines e n
placement_details e (place.Misfit n region) = placed_lines e n ++ region_lines e region
placement_details e (place.Overlap m n) = placed_lines e m ++ placed_lines e n
placement_details e place.NoMemory = []

-- the lines of a field's expression, if there is a field
abbrev pub lines_of_field : Parts → Option Tree → Text
lines_of_field m None = []
lines_of_field m (Some t) = value_lines m t

-- the lines of the section with a number, and of the value of the first field that is loaded into it at an address
abbrev pub field_details : Explained → ℕ → ℕ → Text
field_details e n address = entry_lines e n ++ lines_of_field e.own (field_of e.«module» e.own e.plan n address)

abbrev pub site_details : Explained → Site → Text
site_details e (site.Public name) = mention_text e.names e.flat (name ∷ [])
site_details e (site.Counter n) = entry_lines e n
site_details e (site.Field n address) = field_details e n address
site_details e site.Start = []
site_details e (site.Debug n) = []

-- the names that are needed and that neither a public nor a common has
abbrev pub undefined_names : List Parts → List (List ℕ)
undefined_names ms = filter (λ name. not (has_name (common_names ms) name)) (needs ms)

-- The lines after the error line of modules that cannot be located. All undefined names are listed.
abbrev pub locate_details : Explained → LocateRefusal → Text
locate_details e (locate.Place r) = placement_details e r
locate_details e (locate.Undefined name) = mention_text e.names e.flat (undefined_names e.modules)
locate_details e (locate.CommonUnplaced name) = mention_text e.names e.flat (name ∷ [])
locate_details e (locate.Cycle name) = mention_text e.names e.flat (name ∷ [])
locate_details e (locate.DivideByZero s) = site_details e s
locate_details e (locate.Overflow n address kind size value) = field_details e n address
locate_details e (locate.LoadOutside n address) = entry_lines e n
locate_details e (locate.LoadedTwice address) = []
locate_details e (locate.ImageLimit count) = []
locate_details e locate.NoMemory = []
