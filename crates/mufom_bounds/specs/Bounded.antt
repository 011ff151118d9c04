-- The bounds of a module's parts, apart from those that follow if the module has no defect: those of positions, of the sizes of fields and of the
-- length of an address.
use Rattle.std.specs.Prelude.{◌≤◌, length, All, IfSome, option_to_list}
use Rattle.std.specs.List.{AllByRecursion}
use Rattle.mufom_numbers.specs.Spelling.{AreBytes}
use Rattle.mufom_expr.specs.declared.token.Token.{Token}
use Rattle.mufom_expr.specs.declared.token.Token.TheVariants.{Number, Var, Fun}
use Rattle.mufom_expr.specs.Tree.{Tree, tokens_of}
use Rattle.mufom_names.specs.declared.name.Public.{Public}
use Rattle.mufom_loads.specs.declared.load.Item.{Item}
use Rattle.mufom_loads.specs.declared.load.Item.TheVariants.{Literal, Field}
use Rattle.mufom_loads.specs.declared.load.Load.{Load}
use Rattle.mufom_loads.specs.declared.load.Load.TheVariants.{SetSection, SetPc, One, Repeat}
use Rattle.mufom_debug.specs.declared.item.BlockHead.{BlockHead}
use Rattle.mufom_debug.specs.declared.item.BlockHead.TheVariants as heads
use Rattle.mufom_debug.specs.Marks.{DebugMark, block_begin, block_end, name_mark, note_mark, value_mark}
use Rattle.mufom_module.specs.declared.module.Parts.{Parts}
use Rattle.mufom_module.specs.Contents.{debug_marks}
use Rattle.mufom_module.specs.Made.{IsMadeNote, IsMadeReference, IsMadeSection, IsNumber}

-- ---- expressions

-- a number in an expression has 64 bits
abbrev pub IsBoundedToken : Token → Type 0
IsBoundedToken (Number n) = IsNumber n
IsBoundedToken (Var letter place) = Unit {0}
IsBoundedToken (Fun f) = Unit {0}

-- an expression has at most 255 tokens
abbrev pub IsBoundedTree : Tree → Type 0
IsBoundedTree tree = (length (tokens_of tree) ≤ 255) × AllByRecursion IsBoundedToken (tokens_of tree)

-- ---- the other parts

-- a name that consists of bytes, an expression, and notes
pub record IsBoundedPublic (p : Public) : Type 0 where
  pub name : AreBytes p.name
  pub value : IsBoundedTree p.value
  pub notes : All IsMadeNote p.notes

-- a literal consists of bytes
abbrev pub IsBoundedItem : Item → Type 0
IsBoundedItem (Literal bytes) = AreBytes bytes
IsBoundedItem (Field kind size value) = IsBoundedTree value

abbrev pub IsBoundedLoad : Load → Type 0
IsBoundedLoad (SetSection section) = Unit {0}
IsBoundedLoad (SetPc section value) = IsBoundedTree value
IsBoundedLoad (One item) = IsBoundedItem item
IsBoundedLoad (Repeat count items) = IsNumber count × AllByRecursion IsBoundedItem items

-- a source block has at most six numbers
abbrev pub IsBoundedHead : BlockHead → Type 0
IsBoundedHead heads.Module = Unit {0}
IsBoundedHead (heads.Global stack type_index offset) = IsNumber stack × IsNumber type_index × IsBoundedTree offset
IsBoundedHead (heads.Source numbers) = (length numbers.items ≤ 6) × All IsNumber numbers.items
IsBoundedHead (heads.Local stack type_index offset) = IsNumber stack × IsNumber type_index × IsBoundedTree offset
IsBoundedHead (heads.Section section_type section offset) = IsNumber section_type × IsBoundedTree offset

abbrev pub IsBoundedMark : DebugMark → Type 0
IsBoundedMark (block_begin head name) = IsBoundedHead head × AreBytes name
IsBoundedMark (block_end value) = IfSome value IsBoundedTree
IsBoundedMark (name_mark name) = AreBytes name
IsBoundedMark (note_mark name note) = IsMadeNote note
IsBoundedMark (value_mark name value) = IsBoundedTree value

-- The parts are within these bounds.
pub record IsBounded (m : Parts) : Type 0 where
  pub processor : AreBytes m.processor
  pub name : AreBytes m.name
  pub ext : AreBytes m.ext
  pub env : AreBytes m.env
  pub sections : AllByRecursion IsMadeSection m.sections
  pub publics : AllByRecursion IsBoundedPublic m.names.publics
  pub references : AllByRecursion IsMadeReference m.names.references
  pub debug : AllByRecursion IsBoundedMark (debug_marks m)
  pub loads : AllByRecursion IsBoundedLoad m.loads
  pub start : AllByRecursion IsBoundedTree (option_to_list m.start)
