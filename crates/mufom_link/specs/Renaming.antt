-- Renumbering: what the entries of a module become in a link.
use Rattle.std.specs.Prelude.{ℕ, ◌+◌, ◌%◌, ◌^◌, List, map, Option, Some, None, option_map, slice_get}
use Rattle.mufom_expr.specs.declared.token.Letter.{Letter}
use Rattle.mufom_expr.specs.declared.token.Letter.TheVariants as letters
use Rattle.mufom_expr.specs.Tree.{Tree}
use Rattle.mufom_expr.specs.Value.{with_variables}
use Rattle.mufom_names.specs.declared.name.Public.{Public}
use Rattle.mufom_loads.specs.declared.load.Item.{Item}
use Rattle.mufom_loads.specs.declared.load.Item.TheVariants.{Literal, Field}
use Rattle.mufom_loads.specs.declared.load.Load.{Load}
use Rattle.mufom_loads.specs.declared.load.Load.TheVariants.{SetSection, SetPc, One, Repeat}
use Rattle.mufom_debug.specs.declared.item.BlockHead.{BlockHead}
use Rattle.mufom_debug.specs.declared.item.BlockHead.TheVariants as heads
use Rattle.mufom_debug.specs.Marks.{DebugMark, block_begin, block_end, name_mark, note_mark, value_mark}
use Rattle.mufom_link.specs.declared.renumbering.Renumbering.{Renumbering}

-- what sections, debug names and variables of a module become
pub record Renaming : Type 0 where
  pub section : ℕ → ℕ
  pub debug_name : ℕ → ℕ
  pub variable : Letter → ℕ → Letter × ℕ

abbrev pub renamed_tree : Renaming → Tree → Tree
renamed_tree r t = with_variables r.variable t

abbrev pub renamed_public : Renaming → Public → Public
renamed_public r entry = record { name = entry.name; value = renamed_tree r entry.value; notes = entry.notes }

abbrev pub renamed_item : Renaming → Item → Item
renamed_item r (Literal bytes) = Literal bytes
renamed_item r (Field kind size t) = Field kind size (renamed_tree r t)

abbrev pub renamed_load : Renaming → Load → Load
renamed_load r (SetSection section) = SetSection (r.section section)
renamed_load r (SetPc section t) = SetPc (r.section section) (renamed_tree r t)
renamed_load r (One item) = One (renamed_item r item)
renamed_load r (Repeat count items) = Repeat count (map (renamed_item r) items)

abbrev pub renamed_head : Renaming → BlockHead → BlockHead
renamed_head r heads.Module = heads.Module
renamed_head r (heads.Global stack type_index offset) = heads.Global stack type_index (renamed_tree r offset)
renamed_head r (heads.Local stack type_index offset) = heads.Local stack type_index (renamed_tree r offset)
renamed_head r (heads.Source numbers) = heads.Source numbers
renamed_head r (heads.Section section_type section offset) = heads.Section section_type (r.section section) (renamed_tree r offset)

abbrev pub renamed_mark : Renaming → DebugMark → DebugMark
renamed_mark r (block_begin head name) = block_begin (renamed_head r head) name
renamed_mark r (block_end end) = block_end (option_map (renamed_tree r) end)
renamed_mark r (name_mark name) = name_mark name
renamed_mark r (note_mark name note) = note_mark (r.debug_name name) note
renamed_mark r (value_mark name t) = value_mark (r.debug_name name) (renamed_tree r t)

-- ---- the renaming of a site

-- the number of an entry in the link, given that of the module's first entry of its kind; modulo 2^32
abbrev pub moved : ℕ → ℕ → ℕ
moved first n = (first + n) % 2 ^ 32

-- the variable that replaces a reference
abbrev pub target_at : Option (Letter × ℕ) → Letter × ℕ
target_at None = (letters.X, 0)
target_at (Some target) = target

-- what a variable becomes, given the numbers in the link of the module's first section and first public
abbrev pub moved_variable : ℕ → ℕ → List (Letter × ℕ) → Letter → ℕ → Letter × ℕ
moved_variable s p targets letters.R n = (letters.R, moved s n)
moved_variable s p targets letters.L n = (letters.L, moved s n)
moved_variable s p targets letters.S n = (letters.S, moved s n)
moved_variable s p targets letters.P n = (letters.P, moved s n)
moved_variable s p targets letters.I n = (letters.I, moved p n)
moved_variable s p targets letters.X n = target_at (slice_get targets n)

-- the renumbering of a module's entries, given the numbers in the link of its first section, public and debug name
abbrev pub renaming : ℕ → ℕ → ℕ → List (Letter × ℕ) → Renaming
renaming s p d targets = record { section = moved s; debug_name = moved d; variable = moved_variable s p targets }

-- what a variable of the module becomes
abbrev pub site_variable : Renumbering → Letter → ℕ → Letter × ℕ
site_variable site = moved_variable site.first_section site.first_public site.targets.now

-- what the entries of the module become
abbrev pub renaming_of : Renumbering → Renaming
renaming_of site = renaming site.first_section site.first_public site.first_name site.targets.now
