-- What the records of a file's parts state, as the parts of a module (IEEE Std 695, section definition, name declaration,
-- debug information and load commands).
use Rattle.std.specs.Prelude.{ℕ, ◌==◌, List, [], ◌∷◌, ◌++◌, map, filter_map, slice_get, Option, Some, None, unwrap_or, option_map, if◌then◌else◌}
use Rattle.mufom_numbers.specs.declared.codes.TheConstants.{LETTER_D, LETTER_P}
use Rattle.arrayvec.specs.ArrayVec.{ArrayVec}
use Rattle.mufom_expr.specs.Tree.{Tree, number}
use Rattle.mufom_expr.specs.Spelled.{Indexes}
use Rattle.mufom_records.specs.declared.record.Record.{Record}
use Rattle.mufom_records.specs.declared.record.Record.TheVariants as r
use Rattle.mufom_records.specs.declared.record.BlockTail.{BlockTail}
use Rattle.mufom_records.specs.declared.record.BlockTail.TheVariants as tail
use Rattle.mufom_sections.specs.declared.section.Purpose.{Purpose}
use Rattle.mufom_sections.specs.declared.section.Purpose.TheVariants as purpose
use Rattle.mufom_sections.specs.declared.section.Section.{Section}
use Rattle.mufom_names.specs.declared.name.Note.{Note}
use Rattle.mufom_names.specs.declared.name.Weak.{Weak}
use Rattle.mufom_names.specs.declared.name.Public.{Public}
use Rattle.mufom_names.specs.declared.name.Reference.{Reference}
use Rattle.mufom_loads.specs.declared.load.Item.{Item}
use Rattle.mufom_loads.specs.declared.load.Item.TheVariants.{Literal, Field}
use Rattle.mufom_loads.specs.declared.load.Load.{Load}
use Rattle.mufom_loads.specs.declared.load.Load.TheVariants.{SetSection, SetPc, One, Repeat}
use Rattle.mufom_debug.specs.declared.item.BlockHead.{BlockHead}
use Rattle.mufom_debug.specs.declared.item.BlockHead.TheVariants as head
use Rattle.mufom_debug.specs.Marks.{DebugMark, block_begin, block_end, name_mark, note_mark, value_mark}
use Rattle.mufom_module.specs.SpelledRecords.{SpelledRecord, text_in, tree_in, position_in, positioned}

-- the results of a function on the records, in order, without the records for which it has none
abbrev pub answers : {X : Type 0} → (Record → Option X) → List SpelledRecord → List X
answers ask records = filter_map (λ p. ask p.row) records

-- the first of these results, if there is one
abbrev pub first_answer : {X : Type 0} → (Record → Option X) → List SpelledRecord → Option X
first_answer ask records = slice_get (answers ask records) 0

-- the value, if the indexes are the same
abbrev pub for_index : {X : Type 0} → ℕ → ℕ → X → Option X
for_index i j x = if i == j then Some x else None

-- ---- sections

-- ASS: the size of the section with this index
abbrev pub size_for : ℕ → Record → Option ℕ
size_for i (r.SectionSize j n) = for_index i j n
size_for i _ = None

-- SA: its alignment
abbrev pub alignment_for : ℕ → Record → Option ℕ
alignment_for i (r.Alignment j n _) = for_index i j n
alignment_for i _ = None

-- ASL: its base
abbrev pub base_for : ℕ → Record → Option ℕ
base_for i (r.SectionBase j n) = for_index i j n
base_for i _ = None

-- the letters of purposes: D0, C4 and D2
abbrev pub purpose_of : ℕ → Purpose
purpose_of b = if b == LETTER_P then purpose.Code else (if b == LETTER_D then purpose.Data else purpose.Rom)

-- the section that a record declares, with what the part's records state about it; by default the size is 0 and the alignment 1
abbrev pub section_by : List SpelledRecord → SpelledRecord → Record → Option Section
section_by part p (r.SectionType i absolute letter name _ _ _) = Some (record {
  name = text_in p name;
  absolute = absolute;
  purpose = option_map purpose_of letter;
  size = unwrap_or (first_answer (size_for i) part) 0;
  align = unwrap_or (first_answer (alignment_for i) part) 1;
  base = first_answer (base_for i) part;
})
section_by part p _ = None

-- the sections that the section part declares
abbrev pub sections_of : List SpelledRecord → List Section
sections_of part = filter_map (λ p. section_by part p p.row) part

-- ---- names

-- a note with these numbers
abbrev pub note_of : ℕ → ℕ → ArrayVec ℕ → Note
note_of type_index attribute ns = record { type_index = type_index; attribute = attribute; numbers = ns }

-- ATI: a note of the public with this index
abbrev pub public_note_for : ℕ → Record → Option Note
public_note_for i (r.PublicNote j type_index attribute ns) = for_index i j (note_of type_index attribute ns)
public_note_for i _ = None

-- ATX: a note of the reference with this index
abbrev pub reference_note_for : ℕ → Record → Option Note
reference_note_for i (r.ReferenceNote j type_index attribute ns) = for_index i j (note_of type_index attribute ns)
reference_note_for i _ = None

-- WX: its size, and its default, which is 0 if none is stated
abbrev pub weak_for : ℕ → Record → Option Weak
weak_for i (r.WeakReference j n default) = for_index i j (record { size = n; default = unwrap_or default 0 })
weak_for i _ = None

-- ASI: the value of the public with this index
abbrev pub value_for : ℕ → SpelledRecord → Record → Option Tree
value_for i p (r.PublicValue j value) = for_index i j (tree_in p value)
value_for i p _ = None

-- the value of the public with this index, by the part's records; each public of a file has one
abbrev pub value_of : Indexes → ℕ → List SpelledRecord → Tree
value_of ix i part = positioned ix (unwrap_or (slice_get (filter_map (λ p. value_for i p p.row) part) 0) (number 0))

-- the public that a record declares, with what the part's records state about it
abbrev pub public_by : Indexes → List SpelledRecord → SpelledRecord → Record → Option Public
public_by ix part p (r.PublicName i name) = Some (record {
  name = text_in p name;
  value = value_of ix i part;
  notes = answers (public_note_for i) part;
})
public_by ix part p _ = None

-- the publics that the external part declares
abbrev pub publics_of : Indexes → List SpelledRecord → List Public
publics_of ix part = filter_map (λ p. public_by ix part p p.row) part

-- the reference that a record declares, with what the part's records state about it; it is strong if there is no WX for it
abbrev pub reference_by : List SpelledRecord → SpelledRecord → Record → Option Reference
reference_by part p (r.ReferenceName i name) = Some (record {
  name = text_in p name;
  weak = first_answer (weak_for i) part;
  notes = answers (reference_note_for i) part;
})
reference_by part p _ = None

-- the references that the external part declares
abbrev pub references_of : List SpelledRecord → List Reference
references_of part = filter_map (λ p. reference_by part p p.row) part

-- ---- debug items

-- the head of a block, by its kind and the fields of that kind
abbrev pub head_by : Indexes → SpelledRecord → ℕ → BlockTail → BlockHead
head_by ix p kind tail.Module = head.Module
head_by ix p kind (tail.Scope stack type_index offset) = let value = positioned ix (tree_in p offset) in
    if kind == 4 then head.Global stack type_index value else head.Local stack type_index value
head_by ix p kind (tail.Source ns) = head.Source ns
head_by ix p kind (tail.Section section_type section offset) = head.Section section_type (position_in ix.sections section) (positioned ix (tree_in p offset))

-- the mark that a record of the debug part states
abbrev pub mark_by : Indexes → SpelledRecord → Record → Option DebugMark
mark_by ix p (r.BlockBegin kind _ name block) = Some (block_begin (head_by ix p kind block) (text_in p name))
mark_by ix p (r.BlockEnd value) = Some (block_end (option_map (λ span. positioned ix (tree_in p span)) value))
mark_by ix p (r.DebugName _ name) = Some (name_mark (text_in p name))
mark_by ix p (r.DebugValue i value) = Some (value_mark (position_in ix.debug_names i) (positioned ix (tree_in p value)))
mark_by ix p (r.DebugNote i type_index attribute ns) = Some (note_mark (position_in ix.debug_names i) (note_of type_index attribute ns))
mark_by ix p _ = None

-- the marks of the debug part
abbrev pub marks : Indexes → List SpelledRecord → List DebugMark
marks ix part = filter_map (λ p. mark_by ix p p.row) part

-- ---- loads

-- the item that a record states; a field without a size is as wide as an address
abbrev pub item_by : Indexes → ℕ → SpelledRecord → Record → Option Item
item_by ix maus p (r.ConstantItem run) = Some (Literal (text_in p run))
item_by ix maus p (r.FieldItem kind value n) = Some (Field kind (unwrap_or n maus) (positioned ix (tree_in p value)))
item_by ix maus p _ = None

-- the items at the start of these records, up to the first record that is not an item
abbrev pub items_at_prefix : Indexes → ℕ → List SpelledRecord → List Item
items_at_prefix ix maus [] = []
items_at_prefix ix maus (p ∷ records) = with_rest (item_by ix maus p p.row) (items_at_prefix ix maus records) where
  with_rest : Option Item → List Item → List Item
  with_rest None items = []
  with_rest (Some item) items = item ∷ items

-- the loads that a record states, given the items after it: an LR loads them, an RE of an LR repeats them
abbrev pub loads_by : Indexes → SpelledRecord → List Item → Record → List Load
loads_by ix p items (r.SetSection i) = SetSection (position_in ix.sections i) ∷ []
loads_by ix p items (r.SetPc i value) = SetPc (position_in ix.sections i) (positioned ix (tree_in p value)) ∷ []
loads_by ix p items (r.Constant run) = One (Literal (text_in p run)) ∷ []
loads_by ix p items r.Relocate = map One items
loads_by ix p items (r.RepeatConstant times run) = Repeat times (Literal (text_in p run) ∷ []) ∷ []
loads_by ix p items (r.RepeatRelocate times) = Repeat times items ∷ []
loads_by ix p items _ = []

-- the loads of the data part, record by record
abbrev pub loads_of : Indexes → ℕ → List SpelledRecord → List Load
loads_of ix maus [] = []
loads_of ix maus (p ∷ records) = loads_by ix p (items_at_prefix ix maus records) p.row ++ loads_of ix maus records

-- ---- the start

-- ASG: the start address
abbrev pub start_by : Indexes → SpelledRecord → Record → Option Tree
start_by ix p (r.Start value) = Some (positioned ix (tree_in p value))
start_by ix p _ = None

-- the start addresses of the trailer part, of which there is at most one
abbrev pub starts_of : Indexes → List SpelledRecord → List Tree
starts_of ix part = filter_map (λ p. start_by ix p p.row) part
