-- The definition of the location of a list of modules.
use Rattle.std.specs.Prelude.{◌≡◌, ℕ, ◌^◌, List, [], ◌∷◌, map, Option, Some, None, option_map, slice_get, true, option_to_list}
use Rattle.std.specs.List.{enumerate_from}
use Rattle.mufom_expr.specs.Tree.{number}
use Rattle.mufom_sections.specs.declared.section.Section.{Section}
use Rattle.mufom_debug.specs.declared.item.BlockHead.{BlockHead}
use Rattle.mufom_debug.specs.declared.item.BlockHead.TheVariants as heads
use Rattle.mufom_debug.specs.Marks.{DebugMark, block_begin, block_end, name_mark, note_mark, value_mark, marks_of}
use Rattle.mufom_module.specs.declared.module.Order.{Order}
use Rattle.mufom_module.specs.declared.module.Parts.{Parts}
use Rattle.mufom_plan.specs.declared.plan.Plan.{Plan}
use Rattle.mufom_meaning.specs.declared.located.PublicValue.{PublicValue}
use Rattle.mufom_meaning.specs.declared.located.LocatedParts.{LocatedParts}
use Rattle.mufom_meaning.specs.Flat.{width}
use Rattle.mufom_meaning.specs.Placed.{extended_sections, base_list, planned_bases}
use Rattle.mufom_meaning.specs.Readings.{readings, PublicReading, HeadReading, module_head, global_head, local_head, source_head, section_head}
use Rattle.mufom_meaning.specs.Readings.{MarkReading, begin_reading, end_reading, name_reading, note_reading, value_reading}
use Rattle.mufom_meaning.specs.LinkAnswer.{link_answer}
use Rattle.mufom_meaning.specs.LocateAnswer.{locate_answer}
use Rattle.mufom_meaning.specs.AddressMap.{AreRunsOf, address_map}

-- a section after placing: absolute, and with the base that is at its position
abbrev pub placed_section : List ℕ → ℕ × Section → Section
placed_section placed s = record s.1 { absolute = true; base = slice_get placed s.0 }

-- all sections, each with the base that is at its position
abbrev pub placed_sections : List ℕ → List Section → List Section
placed_sections placed sections = map (placed_section placed) (enumerate_from 0 sections)

-- the sections of a location: those of the modules, followed by the commons that the plan places
abbrev pub located_sections : List Parts → Plan → List Section
located_sections ms plan = placed_sections (base_list ms plan) (extended_sections ms plan)

-- a located public as a reading
abbrev pub located_public : PublicValue → PublicReading
located_public p = record { name = p.name; notes = p.notes; value = Some p.value }

-- the head of a block with one number in place of its expression, if that has a value
abbrev pub located_head : HeadReading → Option BlockHead
located_head module_head = Some heads.Module
located_head (global_head stack type_index offset) = option_map (λ n. heads.Global stack type_index (number n)) offset
located_head (local_head stack type_index offset) = option_map (λ n. heads.Local stack type_index (number n)) offset
located_head (source_head numbers) = Some (heads.Source (record { items = numbers }))
located_head (section_head section_type section offset) = option_map (λ n. heads.Section section_type section (number n)) offset

-- the end of a block, with one number in place of its expression
abbrev pub located_end : Option (Option ℕ) → Option DebugMark
located_end None = Some (block_end None)
located_end (Some value) = option_map (λ n. block_end (Some (number n))) value

-- A debug record after locating, with one number in place of its expression; None if the expression has no value.
abbrev pub located_mark : MarkReading → Option DebugMark
located_mark (begin_reading head name) = option_map (λ h. block_begin h name) (located_head head)
located_mark (end_reading end) = located_end end
located_mark (name_reading name) = Some (name_mark name)
located_mark (note_reading name note) = Some (note_mark name note)
located_mark (value_reading name value) = option_map (λ n. value_mark name (number n)) value

-- what a location takes from the first module: the processor, the name, the number of bytes of an address and their order
abbrev pub Header : Type 0
Header = List ℕ × List ℕ × ℕ × Order

-- the header of the first module
abbrev pub first_header : List Parts → Option Header
first_header [] = None
first_header (m ∷ ms) = Some (m.processor, m.name, m.maus, m.order)

-- r is the location of the list by the plan: no fact is returned, the sections and commons are at their bases, each public, start and
-- debug expression is replaced by its value for these bases, and the runs are those of the loaded bytes.
pub record IsLocation (ms : List Parts) (plan : Plan) (r : LocatedParts) : Type 0 where
  pub links : link_answer ms ≡ None
  pub locates : locate_answer ms plan ≡ None
  pub first : first_header ms ≡ Some (r.processor, r.name, r.maus, r.order)
  pub sections : r.sections ≡ located_sections ms plan
  pub publics : map located_public r.publics ≡ (readings ms (planned_bases ms plan)).publics
  pub start : map (λ v. Some v) (option_to_list r.start) ≡ (readings ms (planned_bases ms plan)).starts
  pub debug : map (λ mark. Some mark) (marks_of r.debug) ≡ map located_mark (readings ms (planned_bases ms plan)).debug
  pub rows : AreRunsOf (address_map r.order (2 ^ width ms) (readings ms (planned_bases ms plan)).steps) r.runs
