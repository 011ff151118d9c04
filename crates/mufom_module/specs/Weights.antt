-- The weights of the records of a written form, in bytes: nine for each number, three for each lead of a string.
use Rattle.std.specs.Prelude.{ℕ, ◌+◌, ◌*◌, ◌-◌, ◌^◌, ◌==◌, min, Bool, true, false, List, length, sum_by, Option, Some, None, if◌then◌else◌}
use Rattle.mufom_expr.specs.declared.token.Token.{Token}
use Rattle.mufom_expr.specs.declared.token.Token.TheVariants.{Number, Var, Fun}
use Rattle.mufom_expr.specs.Tree.{Tree, tokens_of}
use Rattle.mufom_sections.specs.declared.section.Purpose.{Purpose}
use Rattle.mufom_sections.specs.declared.section.Section.{Section}
use Rattle.mufom_names.specs.declared.name.Note.{Note}
use Rattle.mufom_names.specs.declared.name.Weak.{Weak}
use Rattle.mufom_names.specs.declared.name.Public.{Public}
use Rattle.mufom_names.specs.declared.name.Reference.{Reference}
use Rattle.mufom_loads.specs.declared.load.Item.{Item}
use Rattle.mufom_loads.specs.declared.load.Item.TheVariants.{Literal, Field}
use Rattle.mufom_loads.specs.declared.load.Load.{Load}
use Rattle.mufom_loads.specs.declared.load.Load.TheVariants.{SetSection, SetPc, One, Repeat}
use Rattle.mufom_debug.specs.declared.item.BlockHead.{BlockHead}
use Rattle.mufom_debug.specs.declared.item.BlockHead.TheVariants as heads
use Rattle.mufom_debug.specs.Marks.{DebugMark, block_begin, block_end, name_mark, note_mark, value_mark, marks_of}
use Rattle.mufom_module.specs.declared.module.Parts.{Parts}

-- the value of a counter that stops at the greatest number of 64 bits
abbrev pub capped : ℕ → ℕ
capped n = min n (2 ^ 64 - 1)

-- a number has nine bytes, a variable its letter and its index, a function its byte
abbrev pub token_weight : Token → ℕ
token_weight (Number n) = 9
token_weight (Var letter place) = 10
token_weight (Fun f) = 1

-- the weight of an expression: the sum over its tokens
abbrev pub expression_weight : Tree → ℕ
expression_weight tree = sum_by token_weight (tokens_of tree)

-- the same for one that may be absent
abbrev pub optional_expression_weight : Option Tree → ℕ
optional_expression_weight None = 0
optional_expression_weight (Some tree) = expression_weight tree

-- `A S` is two letters, `C` is one
abbrev pub section_letters_weight : Bool → ℕ
section_letters_weight true = 2
section_letters_weight false = 1

-- the letter of a purpose, if there is one
abbrev pub purpose_weight : Option Purpose → ℕ
purpose_weight None = 0
purpose_weight (Some purpose) = 1

-- SA, which is left out for an alignment of 1
abbrev pub alignment_weight : ℕ → ℕ
alignment_weight align = if align == 1 then 0 else 19

-- ASS, which is left out for a size of 0
abbrev pub size_weight : ℕ → ℕ
size_weight size = if size == 0 then 0 else 20

-- ASL, if there is a base
abbrev pub base_weight : Option ℕ → ℕ
base_weight None = 0
base_weight (Some base) = 20

-- the weight of a section, which is at least 14
abbrev pub section_weight : Section → ℕ
section_weight s = 13 + section_letters_weight s.absolute + purpose_weight s.purpose + length s.name
    + alignment_weight s.align + size_weight s.size + base_weight s.base

-- a note with its numbers
abbrev pub note_weight : Note → ℕ
note_weight note = 29 + 9 * length note.numbers.items

-- all notes of a name
abbrev pub notes_weight : List Note → ℕ
notes_weight notes = sum_by note_weight notes

-- NI, the notes and ASI
abbrev pub public_weight : Public → ℕ
public_weight p = 24 + length p.name + notes_weight p.notes + expression_weight p.value

-- the default of WX, which is left out if it is 0
abbrev pub default_weight : ℕ → ℕ
default_weight default = if default == 0 then 0 else 9

-- WX, which a strong reference does not have
abbrev pub weak_weight : Option Weak → ℕ
weak_weight None = 0
weak_weight (Some w) = 19 + default_weight w.default

-- NX, the notes and WX
abbrev pub reference_weight : Reference → ℕ
reference_weight r = 13 + length r.name + notes_weight r.notes + weak_weight r.weak

-- what the kind of a block adds to its BB
abbrev pub head_weight : BlockHead → ℕ
head_weight heads.Module = 0
head_weight (heads.Global stack type_index offset) = 18 + expression_weight offset
head_weight (heads.Source ns) = 9 * length ns.items
head_weight (heads.Local stack type_index offset) = 18 + expression_weight offset
head_weight (heads.Section section_type section offset) = 18 + expression_weight offset

-- one record of the debug part
abbrev pub mark_weight : DebugMark → ℕ
mark_weight (block_begin head name) = 22 + length name + head_weight head
mark_weight (block_end value) = 1 + optional_expression_weight value
mark_weight (name_mark name) = 13 + length name
mark_weight (note_mark name note) = note_weight note
mark_weight (value_mark name value) = 11 + expression_weight value

-- all records of the debug part
abbrev pub marks_weight : List DebugMark → ℕ
marks_weight marks = sum_by mark_weight marks

-- an item of an LR
abbrev pub item_weight : Item → ℕ
item_weight (Literal bytes) = 9 + length bytes
item_weight (Field kind size value) = 12 + expression_weight value

-- all items of an LR
abbrev pub items_weight : List Item → ℕ
items_weight items = sum_by item_weight items

-- one load
abbrev pub load_weight : Load → ℕ
load_weight (SetSection section) = 10
load_weight (SetPc section value) = 11 + expression_weight value
load_weight (One item) = 1 + item_weight item
load_weight (Repeat count items) = 11 + items_weight items

-- ASG with its brackets, if there is a start
abbrev pub start_weight : Option Tree → ℕ
start_weight None = 0
start_weight (Some value) = 4 + expression_weight value

-- the weight of the header, the raw parts and the end: 156 bytes besides their strings and bytes
abbrev pub frame_weight : Parts → ℕ
frame_weight m = 156 + length m.processor + length m.name + length m.ext + length m.env

-- the weight of all parts
abbrev pub parts_weight : Parts → ℕ
parts_weight m = frame_weight m + sum_by section_weight m.sections + sum_by public_weight m.names.publics + sum_by reference_weight m.names.references
    + marks_weight (marks_of m.debug) + sum_by load_weight m.loads + start_weight m.start
