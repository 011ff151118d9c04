-- The text of a module: a line for each entry. It has two forms: a summary to read, and a listing from which the module can be built. They differ
-- only in the parts that are kept as bytes (extension and environment) and in the end of a repeat.
use Rattle.std.specs.Prelude.{ℕ, ◌-◌, Bool, List, [], ◌∷◌, ◌++◌, length, flat_map, Option, Some, None, codes, if◌then◌else◌}
use Rattle.std.specs.Fmt.{decimal}
use Rattle.mufom_expr.specs.declared.token.FieldKind.{FieldKind}
use Rattle.mufom_expr.specs.declared.token.FieldKind.TheVariants.{Signed, Unsigned, Either}
use Rattle.mufom_expr.specs.Tree.{Tree}
use Rattle.mufom_expr.specs.InfixText.{infix_text}
use Rattle.mufom_sections.specs.declared.section.Purpose.{Purpose}
use Rattle.mufom_sections.specs.declared.section.Purpose.TheVariants as purposes
use Rattle.mufom_sections.specs.declared.section.Section.{Section}
use Rattle.mufom_names.specs.declared.name.Note.{Note}
use Rattle.mufom_names.specs.declared.name.Weak.{Weak}
use Rattle.mufom_names.specs.declared.name.Public.{Public}
use Rattle.mufom_names.specs.declared.name.Reference.{Reference}
use Rattle.mufom_loads.specs.declared.load.Item.{Item}
use Rattle.mufom_loads.specs.declared.load.Item.TheVariants.{Literal, Field}
use Rattle.mufom_loads.specs.declared.load.Load.{Load}
use Rattle.mufom_loads.specs.declared.load.Load.TheVariants.{SetSection, SetPc, One, Repeat}
use Rattle.mufom_debug.specs.declared.item.BlockHead.{BlockHead}
use Rattle.mufom_debug.specs.declared.item.BlockHead.TheVariants as heads
use Rattle.mufom_debug.specs.Marks.{DebugMark, block_begin, block_end, name_mark, note_mark, value_mark, marks_of, open_after, kind_number, names_after}
use Rattle.mufom_module.specs.declared.module.Order.{Order}
use Rattle.mufom_module.specs.declared.module.Order.TheVariants.{Least, Most}
use Rattle.mufom_module.specs.declared.module.Parts.{Parts}
use Rattle.mufom_text.specs.declared.form.TextForm.{TextForm}
use Rattle.mufom_text.specs.declared.form.TextForm.TheVariants.{Summary, Listing}
use Rattle.mufom_text.specs.Words.{Text, line, quoted, spaced_numbers, hex_bytes, indent, each}

-- the letter of an order of bytes: the least significant first, or the most
abbrev pub order_letter : Order → Text
order_letter Least = codes "L"
order_letter Most = codes "M"

abbrev pub module_line : Parts → Text
module_line m = line (codes "module " ++ quoted m.name ++ codes " processor " ++ quoted m.processor ++ codes " maus " ++ decimal m.maus
    ++ codes " order " ++ order_letter m.order)

-- what is printed of a part that is kept as bytes: its length in a summary, the bytes in a listing
abbrev pub raw_text : TextForm → List ℕ → Text
raw_text Summary bytes = decimal (length bytes) ++ codes " bytes"
raw_text Listing bytes = hex_bytes bytes

-- the line of a part that is kept as bytes; nothing if the part is empty
abbrev pub raw_line : TextForm → Text → List ℕ → Text
raw_line form name [] = []
raw_line form name (b ∷ bytes) = line (name ++ codes " " ++ raw_text form (b ∷ bytes))

-- ---- sections

abbrev pub purpose_letter : Option Purpose → Text
purpose_letter None = []
purpose_letter (Some purposes.Code) = codes "P"
purpose_letter (Some purposes.Data) = codes "D"
purpose_letter (Some purposes.Rom) = codes "R"

abbrev pub type_letters : Bool → Text
type_letters absolute = if absolute then codes "AS" else codes "C"

abbrev pub base_text : Option ℕ → Text
base_text None = []
base_text (Some base) = codes " base " ++ decimal base

abbrev pub section_line : ℕ → Section → Text
section_line n s = line (codes "section " ++ decimal n ++ codes " " ++ quoted s.name ++ codes " " ++ type_letters s.absolute ++ purpose_letter s.purpose
    ++ codes " size " ++ decimal s.size ++ codes " align " ++ decimal s.align ++ base_text s.base)

-- ---- names

abbrev pub note_text : Note → Text
note_text note = codes " type " ++ decimal note.type_index ++ codes " attribute " ++ decimal note.attribute ++ spaced_numbers note.numbers.items

abbrev pub note_lines : List Note → Text
note_lines notes = flat_map (λ note. line (codes "note" ++ note_text note)) notes

abbrev pub public_line : ℕ → Public → Text
public_line n p = line (codes "public " ++ decimal n ++ codes " " ++ quoted p.name ++ codes " = " ++ infix_text p.value)

abbrev pub public_lines : ℕ → Public → Text
public_lines n p = public_line n p ++ note_lines p.notes

abbrev pub weak_words : Weak → Text
weak_words weak = codes " weak size " ++ decimal weak.size ++ codes " default " ++ decimal weak.default

abbrev pub weak_text : Option Weak → Text
weak_text None = []
weak_text (Some weak) = weak_words weak

abbrev pub reference_line : ℕ → Reference → Text
reference_line n q = line (codes "reference " ++ decimal n ++ codes " " ++ quoted q.name ++ weak_text q.weak)

abbrev pub reference_lines : ℕ → Reference → Text
reference_lines n q = reference_line n q ++ note_lines q.notes

-- ---- debug items

abbrev pub scope_text : ℕ → ℕ → Tree → Text
scope_text stack type_index offset = codes " stack " ++ decimal stack ++ codes " type " ++ decimal type_index ++ codes " offset " ++ infix_text offset

abbrev pub part_text : ℕ → ℕ → Tree → Text
part_text section_type section offset = codes " section-type " ++ decimal section_type ++ codes " section " ++ decimal section ++ codes " offset "
    ++ infix_text offset

-- what the kind of a block adds to its line
abbrev pub head_text : BlockHead → Text
head_text heads.Module = []
head_text (heads.Global stack type_index offset) = scope_text stack type_index offset
head_text (heads.Local stack type_index offset) = scope_text stack type_index offset
head_text (heads.Source numbers) = spaced_numbers numbers.items
head_text (heads.Section section_type section offset) = part_text section_type section offset

abbrev pub end_value : Tree → Text
end_value value = codes "end = " ++ infix_text value

abbrev pub end_text : Option Tree → Text
end_text None = codes "end"
end_text (Some value) = end_value value

-- the line of a debug record, in `depth` open blocks, after `n` debug names
abbrev pub mark_line : ℕ → ℕ → DebugMark → Text
mark_line depth n (block_begin head name) = line (indent depth ++ codes "block " ++ decimal (kind_number head) ++ codes " " ++ quoted name ++ head_text head)
mark_line depth n (block_end end) = line (indent (depth - 1) ++ end_text end)
mark_line depth n (name_mark name) = line (indent depth ++ codes "name " ++ decimal n ++ codes " " ++ quoted name)
mark_line depth n (note_mark name note) = line (indent depth ++ codes "note " ++ decimal name ++ note_text note)
mark_line depth n (value_mark name value) = line (indent depth ++ codes "value " ++ decimal name ++ codes " = " ++ infix_text value)

-- the number of blocks that are open after debug records
abbrev pub depth_after_all : ℕ → List DebugMark → ℕ
depth_after_all depth [] = depth
depth_after_all depth (mark ∷ marks) = depth_after_all (open_after depth mark) marks

-- the lines of debug records, in `depth` open blocks, after `n` debug names
abbrev pub mark_lines : ℕ → ℕ → List DebugMark → Text
mark_lines depth n [] = []
mark_lines depth n (mark ∷ marks) = mark_line depth n mark ++ mark_lines (open_after depth mark) (names_after n mark) marks

-- ---- loads

abbrev pub kind_text : FieldKind → Text
kind_text Signed = codes "signed"
kind_text Unsigned = codes "unsigned"
kind_text Either = codes "either"

abbrev pub bytes_text : List ℕ → Text
bytes_text [] = codes "bytes 0"
bytes_text (b ∷ bytes) = codes "bytes " ++ decimal (length (b ∷ bytes)) ++ codes " " ++ hex_bytes (b ∷ bytes)

abbrev pub item_text : Item → Text
item_text (Literal bytes) = bytes_text bytes
item_text (Field kind size value) = codes "field " ++ kind_text kind ++ codes " " ++ decimal size ++ codes " = " ++ infix_text value

-- the end of a repeat: a line in a listing, nothing in a summary
abbrev pub repeat_end : TextForm → Text
repeat_end Summary = []
repeat_end Listing = line (codes "end")

abbrev pub load_lines : TextForm → Load → Text
load_lines form (SetSection n) = line (codes "select " ++ decimal n)
load_lines form (SetPc n value) = line (codes "counter " ++ decimal n ++ codes " = " ++ infix_text value)
load_lines form (One item) = line (item_text item)
load_lines form (Repeat count items) = line (codes "repeat " ++ decimal count) ++ flat_map (λ item. line (codes "  " ++ item_text item)) items
    ++ repeat_end form

abbrev pub start_line : Option Tree → Text
start_line None = []
start_line (Some value) = line (codes "start = " ++ infix_text value)

-- ---- the module

-- The text of a module whose debug items are given as a list of records.
abbrev pub text_with : TextForm → Parts → List DebugMark → Text
text_with form m marks = module_line m ++ raw_line form (codes "extension") m.ext ++ raw_line form (codes "environment") m.env
    ++ each section_line m.sections ++ each public_lines m.names.publics ++ each reference_lines m.names.references
    ++ mark_lines 0 0 marks ++ flat_map (load_lines form) m.loads ++ start_line m.start

-- The text of a module in this form.
abbrev pub text_of : TextForm → Parts → Text
text_of form m = text_with form m (marks_of m.debug)

-- The summary of a module.
abbrev pub module_text : Parts → Text
module_text m = text_of Summary m

-- The listing of a module.
abbrev pub listing_text : Parts → Text
listing_text m = text_of Listing m
