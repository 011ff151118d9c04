-- The bounds that the types of numbers, positions, bytes and expressions set to the parts of a module. Laws about
-- the writing or the reading of all parts have these bounds as a premise.
use Rattle.std.specs.Prelude.{ℕ, ◌<◌, ◌≤◌, ◌^◌, length, All, IfSome}
use Rattle.std.specs.List.{AllByRecursion}
use Rattle.mufom_numbers.specs.Spelling.{AreBytes}
use Rattle.mufom_expr.specs.Tree.{Tree, tokens_of, IsInRange}
use Rattle.mufom_sections.specs.declared.section.Section.{Section}
use Rattle.mufom_names.specs.declared.name.Note.{Note}
use Rattle.mufom_names.specs.declared.name.Weak.{Weak}
use Rattle.mufom_names.specs.declared.name.Public.{Public}
use Rattle.mufom_names.specs.declared.name.Reference.{Reference}
use Rattle.mufom_loads.specs.declared.load.Item.{Item}
use Rattle.mufom_loads.specs.declared.load.Item.TheVariants.{Literal, Field}
use Rattle.mufom_loads.specs.declared.load.Load.{Load}
use Rattle.mufom_loads.specs.declared.load.Load.TheVariants.{SetSection, SetPc, One, Repeat}
use Rattle.mufom_debug.specs.declared.item.BlockHead.{BlockHead}
use Rattle.mufom_debug.specs.declared.item.BlockHead.TheVariants as heads
use Rattle.mufom_debug.specs.Marks.{DebugMark, block_begin, block_end, name_mark, note_mark, value_mark}
use Rattle.mufom_module.specs.declared.module.Parts.{Parts}
use Rattle.mufom_module.specs.Contents.{debug_marks}

-- a number of 64 bits
abbrev pub IsNumber : ℕ → Type 0
IsNumber n = n < 2 ^ 64

-- a position of 32 bits
abbrev pub IsPosition : ℕ → Type 0
IsPosition n = n < 2 ^ 32

-- the tree of an expression: at most 255 tokens, each of which the code can represent
abbrev pub IsMadeTree : Tree → Type 0
IsMadeTree tree = (length (tokens_of tree) ≤ 255) × AllByRecursion IsInRange (tokens_of tree)

-- the name consists of bytes, the numbers have 64 bits
pub record IsMadeSection (s : Section) : Type 0 where
  pub name : AreBytes s.name
  pub size : IsNumber s.size
  pub align : IsNumber s.align
  pub base : IfSome s.base IsNumber

-- a note has at most four numbers besides the type and the attribute
pub record IsMadeNote (note : Note) : Type 0 where
  pub type_index : IsNumber note.type_index
  pub attribute : IsNumber note.attribute
  pub few : length note.numbers.items ≤ 4
  pub numbers : All IsNumber note.numbers.items

-- a size and a default are numbers
abbrev pub IsMadeWeak : Weak → Type 0
IsMadeWeak weak = IsNumber weak.size × IsNumber weak.default

-- a name that consists of bytes, an expression, and notes
pub record IsMadePublic (p : Public) : Type 0 where
  pub name : AreBytes p.name
  pub value : IsMadeTree p.value
  pub notes : All IsMadeNote p.notes

-- a name that consists of bytes, a weak part, and notes
pub record IsMadeReference (r : Reference) : Type 0 where
  pub name : AreBytes r.name
  pub weak : IfSome r.weak IsMadeWeak
  pub notes : All IsMadeNote r.notes

-- a literal consists of bytes, and the size of a field is below 256
abbrev pub IsMadeItem : Item → Type 0
IsMadeItem (Literal bytes) = AreBytes bytes
IsMadeItem (Field kind size value) = IsMadeTree value × (size < 256)

-- the section and the contents of a load are within their bounds
abbrev pub IsMadeLoad : Load → Type 0
IsMadeLoad (SetSection section) = IsPosition section
IsMadeLoad (SetPc section value) = IsPosition section × IsMadeTree value
IsMadeLoad (One item) = IsMadeItem item
IsMadeLoad (Repeat count items) = IsNumber count × All IsMadeItem items

-- a source block has at most six numbers
abbrev pub IsMadeHead : BlockHead → Type 0
IsMadeHead heads.Module = Unit {0}
IsMadeHead (heads.Global stack type_index offset) = IsNumber stack × IsNumber type_index × IsMadeTree offset
IsMadeHead (heads.Source numbers) = (length numbers.items ≤ 6) × All IsNumber numbers.items
IsMadeHead (heads.Local stack type_index offset) = IsNumber stack × IsNumber type_index × IsMadeTree offset
IsMadeHead (heads.Section section_type section offset) = IsNumber section_type × IsPosition section × IsMadeTree offset

-- the positions and the contents of a mark of the debug part are within their bounds
abbrev pub IsMadeMark : DebugMark → Type 0
IsMadeMark (block_begin head name) = IsMadeHead head × AreBytes name
IsMadeMark (block_end value) = IfSome value IsMadeTree
IsMadeMark (name_mark name) = AreBytes name
IsMadeMark (note_mark name note) = IsPosition name × IsMadeNote note
IsMadeMark (value_mark name value) = IsPosition name × IsMadeTree value

-- The parts are within the bounds of their types.
pub record IsMade (m : Parts) : Type 0 where
  pub processor : AreBytes m.processor
  pub name : AreBytes m.name
  pub maus : m.maus < 256
  pub ext : AreBytes m.ext
  pub env : AreBytes m.env
  pub sections : All IsMadeSection m.sections
  pub publics : All IsMadePublic m.names.publics
  pub references : All IsMadeReference m.names.references
  pub debug : All IsMadeMark (debug_marks m)
  pub loads : All IsMadeLoad m.loads
  pub start : IfSome m.start IsMadeTree
