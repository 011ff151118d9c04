-- A partial link: one module that replaces a list of modules.
use Rattle.std.specs.Prelude.{◌≡◌, ℕ, suc, ◌+◌, ◌==◌, List, [], ◌∷◌, map, length, flat_map, Option, Some, None, option_map, option_to_list, slice_get}
use Rattle.std.specs.Prelude.{Bool, true, false, ◌&&◌, if◌then◌else◌}
use Rattle.std.specs.Str.{bytes_eq}
use Rattle.std.specs.Cmp.Lexicographic.{pointwise}
use Rattle.mufom_expr.specs.declared.token.Letter.{Letter}
use Rattle.mufom_expr.specs.declared.token.Letter.TheVariants as letters
use Rattle.mufom_expr.specs.Tree.{Tree}
use Rattle.mufom_expr.specs.Value.{with_variables}
use Rattle.mufom_names.specs.declared.name.Note.{Note}
use Rattle.mufom_names.specs.declared.name.Weak.{Weak}
use Rattle.mufom_names.specs.declared.name.Public.{Public}
use Rattle.mufom_names.specs.declared.name.Reference.{Reference}
use Rattle.mufom_loads.specs.declared.load.Item.{Item}
use Rattle.mufom_loads.specs.declared.load.Item.TheVariants.{Literal, Field}
use Rattle.mufom_loads.specs.declared.load.Load.{Load}
use Rattle.mufom_loads.specs.declared.load.Load.TheVariants.{SetSection, SetPc, One, Repeat}
use Rattle.mufom_debug.specs.declared.item.BlockHead.{BlockHead}
use Rattle.mufom_debug.specs.declared.item.BlockHead.TheVariants as heads
use Rattle.mufom_debug.specs.Marks.{DebugMark, block_begin, block_end, name_mark, note_mark, value_mark, marks_of}
use Rattle.mufom_module.specs.declared.module.Parts.{Parts}
use Rattle.mufom_plan.specs.Names.{has_name}
use Rattle.mufom_meaning.specs.Flat.{Sited, sited, flat_sections, public_names, unresolved_references, distinct}

-- two weak parts are the same if size and default are
abbrev pub same_weak : Option Weak → Option Weak → Bool
same_weak None None = true
same_weak (Some v) (Some w) = (v.size == w.size) && (v.default == w.default)
same_weak None (Some w) = false
same_weak (Some v) None = false

-- two notes are the same if all their numbers are
abbrev pub same_note : Note → Note → Bool
same_note m n = (m.type_index == n.type_index) && (m.attribute == n.attribute) && bytes_eq m.numbers.items n.numbers.items

-- two references are the same if name, weak part and notes are
abbrev pub same_reference : Reference → Reference → Bool
same_reference r q = bytes_eq r.name q.name && same_weak r.weak q.weak && pointwise same_note r.notes q.notes

-- the references that are kept: those whose names no public of the list has, each once
abbrev pub kept_references : List Parts → List Reference
kept_references ms = distinct same_reference (unresolved_references ms)

-- the position of the first element that passes, or the length if none does
abbrev pub position_of : {A : Type 0} → (A → Bool) → List A → ℕ
position_of test [] = 0
position_of test (x ∷ xs) = if test x then 0 else suc (position_of test xs)

-- A reference to a public of the list becomes that public, and any other becomes the same reference among those kept. A
-- position past the end of the references, which no valid module names, becomes one past the end of those kept.
abbrev pub joined_reference : List Parts → Option Reference → Letter × ℕ
joined_reference ms None = (letters.X, length (kept_references ms))
joined_reference ms (Some r) =
    if has_name (public_names ms) r.name then (letters.I, position_of (λ name. bytes_eq name r.name) (public_names ms))
    else (letters.X, position_of (same_reference r) (kept_references ms))

-- a variable of a module of the list, by flat numbers
abbrev pub joined_variable : List Parts → Sited → Letter → ℕ → Letter × ℕ
joined_variable ms site letters.R n = (letters.R, site.first_section + n)
joined_variable ms site letters.L n = (letters.L, site.first_section + n)
joined_variable ms site letters.S n = (letters.S, site.first_section + n)
joined_variable ms site letters.P n = (letters.P, site.first_section + n)
joined_variable ms site letters.I n = (letters.I, site.first_public + n)
joined_variable ms site letters.X n = joined_reference ms (slice_get site.parts.names.references n)

-- an expression of a module of the list, with its variables by flat numbers
abbrev pub joined_tree : List Parts → Sited → Tree → Tree
joined_tree ms site t = with_variables (joined_variable ms site) t

-- a public of a module of the list, as it is in the partial link
abbrev pub joined_public : List Parts → Sited → Public → Public
joined_public ms site entry = record { name = entry.name; value = joined_tree ms site entry.value; notes = entry.notes }

-- the same for an item
abbrev pub joined_item : List Parts → Sited → Item → Item
joined_item ms site (Literal bytes) = Literal bytes
joined_item ms site (Field kind size t) = Field kind size (joined_tree ms site t)

-- the same for a load, whose section is given by its flat number
abbrev pub joined_load : List Parts → Sited → Load → Load
joined_load ms site (SetSection section) = SetSection (site.first_section + section)
joined_load ms site (SetPc section t) = SetPc (site.first_section + section) (joined_tree ms site t)
joined_load ms site (One item) = One (joined_item ms site item)
joined_load ms site (Repeat count items) = Repeat count (map (joined_item ms site) items)

-- the same for the head of a debug block
abbrev pub joined_head : List Parts → Sited → BlockHead → BlockHead
joined_head ms site heads.Module = heads.Module
joined_head ms site (heads.Global stack type_index offset) = heads.Global stack type_index (joined_tree ms site offset)
joined_head ms site (heads.Local stack type_index offset) = heads.Local stack type_index (joined_tree ms site offset)
joined_head ms site (heads.Source numbers) = heads.Source numbers
joined_head ms site (heads.Section section_type section offset) =
    heads.Section section_type (site.first_section + section) (joined_tree ms site offset)

-- the same for a debug record, whose debug name is given by its flat number
abbrev pub joined_mark : List Parts → Sited → DebugMark → DebugMark
joined_mark ms site (block_begin head name) = block_begin (joined_head ms site head) name
joined_mark ms site (block_end end) = block_end (option_map (joined_tree ms site) end)
joined_mark ms site (name_mark name) = name_mark name
joined_mark ms site (note_mark name note) = note_mark (site.first_name + name) note
joined_mark ms site (value_mark name t) = value_mark (site.first_name + name) (joined_tree ms site t)

-- the processor, descriptor, extension and environment are those of the first module
pub record HasHeaderOf (M m : Parts) : Type 0 where
  pub processor : M.processor ≡ m.processor
  pub maus : M.maus ≡ m.maus
  pub order : M.order ≡ m.order
  pub ext : M.ext ≡ m.ext
  pub env : M.env ≡ m.env

-- the header is that of the first module; an empty list has none
abbrev pub HasFirstHeader : Parts → List Parts → Type 0
HasFirstHeader M [] = ⊥
HasFirstHeader M (m ∷ ms) = HasHeaderOf M m

-- M is the partial link of the list under a name. No expression is evaluated.
pub record IsJoined (M : Parts) (ms : List Parts) (name : List ℕ) : Type 0 where
  pub named : M.name ≡ name
  pub header : HasFirstHeader M ms
  pub sections : M.sections ≡ flat_sections ms
  pub publics : M.names.publics ≡ flat_map (λ site. map (joined_public ms site) site.parts.names.publics) (sited ms)
  pub references : M.names.references ≡ kept_references ms
  pub loads : M.loads ≡ flat_map (λ site. map (joined_load ms site) site.parts.loads) (sited ms)
  pub start : option_to_list M.start ≡ flat_map (λ site. map (joined_tree ms site) (option_to_list site.parts.start)) (sited ms)
  pub debug : marks_of M.debug ≡ flat_map (λ site. map (joined_mark ms site) (marks_of site.parts.debug)) (sited ms)
