-- What a list of modules means if its sections are at given bases: the value of each public, step, start and debug expression.
use Rattle.std.specs.Prelude.{ℕ, ◌+◌, List, map, flat_map, Option, Some, None, option_to_list}
use Rattle.mufom_expr.specs.Tree.{Tree}
use Rattle.mufom_sections.specs.declared.section.Section.{Section}
use Rattle.mufom_names.specs.declared.name.Note.{Note}
use Rattle.mufom_debug.specs.declared.item.BlockHead.{BlockHead}
use Rattle.mufom_debug.specs.declared.item.BlockHead.TheVariants as heads
use Rattle.mufom_debug.specs.Marks.{DebugMark, block_begin, block_end, name_mark, note_mark, value_mark, marks_of}
use Rattle.mufom_module.specs.declared.module.Parts.{Parts}
use Rattle.mufom_meaning.specs.Bases.{Bases}
use Rattle.mufom_meaning.specs.Flat.{Sited, SitedPublic, sited, needs, commons}
use Rattle.mufom_meaning.specs.Values.{Setting, setting, value}
use Rattle.mufom_meaning.specs.Steps.{StepReading, steps, step_readings}

-- a public with its value
pub record PublicReading : Type 0 where
  pub name : List ℕ
  pub notes : List Note
  pub value : Option ℕ

-- a block's head with the value of its offset, and its section by the flat number
pub data HeadReading : Type 0 where
  module_head : HeadReading
  global_head : (stack type_index : ℕ) → (offset : Option ℕ) → HeadReading
  local_head : (stack type_index : ℕ) → (offset : Option ℕ) → HeadReading
  source_head : (numbers : List ℕ) → HeadReading
  section_head : (section_type section : ℕ) → (offset : Option ℕ) → HeadReading

-- a debug record with the value of its expression, and its debug name by the flat number
pub data MarkReading : Type 0 where
  begin_reading : (head : HeadReading) → (name : List ℕ) → MarkReading
  end_reading : (end : Option (Option ℕ)) → MarkReading
  name_reading : (name : List ℕ) → MarkReading
  note_reading : (name : ℕ) → (note : Note) → MarkReading
  value_reading : (name : ℕ) → (value : Option ℕ) → MarkReading

-- what the head of a block means
abbrev pub head_reading : Setting → Sited → BlockHead → HeadReading
head_reading s site heads.Module = module_head
head_reading s site (heads.Global stack type_index offset) = global_head stack type_index (value s site None offset)
head_reading s site (heads.Local stack type_index offset) = local_head stack type_index (value s site None offset)
head_reading s site (heads.Source numbers) = source_head numbers.items
head_reading s site (heads.Section section_type section offset) =
    section_head section_type (site.first_section + section) (value s site None offset)

-- what the end of a block means
abbrev pub end_value : Setting → Sited → Option Tree → Option (Option ℕ)
end_value s site None = None
end_value s site (Some t) = Some (value s site None t)

-- what a debug record means
abbrev pub mark_reading : Setting → Sited → DebugMark → MarkReading
mark_reading s site (block_begin head name) = begin_reading (head_reading s site head) name
mark_reading s site (block_end end) = end_reading (end_value s site end)
mark_reading s site (name_mark name) = name_reading name
mark_reading s site (note_mark name note) = note_reading (site.first_name + name) note
mark_reading s site (value_mark name t) = value_reading (site.first_name + name) (value s site None t)

-- what a public means
abbrev pub public_reading : Setting → SitedPublic → PublicReading
public_reading s q = record { name = q.entry.name; notes = q.entry.notes; value = value s q.site None q.entry.value }

-- What a list of modules means: its sections, publics, steps, starts and debug records with their values, the undefined names that
-- it needs, and its commons.
pub record Readings : Type 0 where
  pub sections : List Section
  pub publics : List PublicReading
  pub steps : List StepReading
  pub starts : List (Option ℕ)
  pub debug : List MarkReading
  pub needs : List (List ℕ)
  pub commons : List (List ℕ × ℕ)

-- what the modules mean if the sections and commons are at the bases
unfoldable pub readings : List Parts → Bases → Readings
readings ms bases = let s = setting ms bases in record {
  sections = s.sections;
  publics = map (public_reading s) s.publics;
  steps = step_readings s (steps ms);
  starts = flat_map (λ site. map (value s site None) (option_to_list site.parts.start)) (sited ms);
  debug = flat_map (λ site. map (mark_reading s site) (marks_of site.parts.debug)) (sited ms);
  needs = needs ms;
  commons = commons ms;
}
