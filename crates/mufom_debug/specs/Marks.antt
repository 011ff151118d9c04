-- Debug items as one flat list of marks, in the order of the file (IEEE Std 695, block begin, block end,
-- name declarations and assignment commands of the debug information part).
use Rattle.std.specs.Prelude.{◌≡◌, ℕ, zero, suc, ◌+◌, ◌-◌, max, Bool, true, false, List, [], ◌∷◌, ◌++◌, Option, Some, None, map, flat_map, option_to_list}
use Rattle.mufom_expr.specs.Tree.{Tree}
use Rattle.mufom_names.specs.declared.name.Note.{Note}
use Rattle.mufom_debug.specs.declared.item.BlockHead.{BlockHead}
use Rattle.mufom_debug.specs.declared.item.BlockHead.TheVariants as heads
use Rattle.mufom_debug.specs.declared.item.DebugItem.{DebugItem, fold-DebugItem}
use Rattle.mufom_debug.specs.declared.item.DebugItem.TheOpen.{DebugItem-F, Block-F}

-- what one record of the debug part states
pub data DebugMark : Type 0 where
  block_begin : (head : BlockHead) → (name : List ℕ) → DebugMark
  block_end : (end : Option Tree) → DebugMark
  name_mark : (name : List ℕ) → DebugMark
  note_mark : (name : ℕ) → (note : Note) → DebugMark
  value_mark : (name : ℕ) → (value : Tree) → DebugMark

-- the lists one after another
abbrev pub joined : {X : Type 0} → List (List X) → List X
joined [] = []
joined (xs ∷ more) = xs ++ joined more

-- the marks of a block, given the marks of each of its items
abbrev pub block_step : Block-F (List DebugMark) (List DebugMark) → List DebugMark
block_step b = (block_begin b.head b.name ∷ joined b.items) ++ block_end b.end ∷ []

-- the marks of an item; those of a block are given
abbrev pub item_step : DebugItem-F (List DebugMark) (List DebugMark) → List DebugMark
item_step (DebugItem-F.Block marks) = marks
item_step (DebugItem-F.Name name) = name_mark name ∷ []
item_step (DebugItem-F.Note name note) = note_mark name note ∷ []
item_step (DebugItem-F.Value name value) = value_mark name value ∷ []

-- the marks of an item: a block is its start, the marks of its items, and its end
abbrev pub marks_of_item : DebugItem → List DebugMark
marks_of_item = fold-DebugItem (List DebugMark) (List DebugMark) item_step block_step

-- the marks of items, one after another
abbrev pub marks_of : List DebugItem → List DebugMark
marks_of items = joined (map marks_of_item items)

-- the number of open blocks after a mark
abbrev pub open_after : ℕ → DebugMark → ℕ
open_after opened (block_begin head name) = opened + 1
open_after opened (block_end end) = opened - 1
open_after opened (name_mark name) = opened
open_after opened (note_mark name note) = opened
open_after opened (value_mark name value) = opened

-- the number of debug names declared after a mark, if `n` are declared before it
abbrev pub names_after : ℕ → DebugMark → ℕ
names_after n (block_begin head name) = n
names_after n (block_end end) = n
names_after n (name_mark name) = n + 1
names_after n (note_mark name note) = n
names_after n (value_mark name value) = n

-- the same for marks, one after another
abbrev pub names_after_all : ℕ → List DebugMark → ℕ
names_after_all n [] = n
names_after_all n (mark ∷ marks) = names_after_all (names_after n mark) marks

-- the greatest number of blocks that are open at once, if `opened` are open before the marks
abbrev pub depth_from : ℕ → List DebugMark → ℕ
depth_from opened [] = opened
depth_from opened (mark ∷ marks) = max opened (depth_from (open_after opened mark) marks)

-- the depth of the marks: the greatest number of blocks that are open at once
abbrev pub depth_of : List DebugMark → ℕ
depth_of marks = depth_from 0 marks

-- if `n` blocks are open, the marks end these and each block that they begin, and no others
abbrev pub closes : ℕ → List DebugMark → Bool
closes zero [] = true
closes (suc n) [] = false
closes n (block_begin head name ∷ marks) = closes (suc n) marks
closes zero (block_end end ∷ marks) = false
closes (suc n) (block_end end ∷ marks) = closes n marks
closes n (name_mark name ∷ marks) = closes n marks
closes n (note_mark name note ∷ marks) = closes n marks
closes n (value_mark name value ∷ marks) = closes n marks

-- after these marks, as many blocks are open as before, and their depth is counted from that number
pub record IsBalanced (marks : List DebugMark) : Type 0 where
  pub deep : (opened : ℕ) (rest : List DebugMark) → depth_from opened (marks ++ rest) ≡ max (opened + depth_of marks) (depth_from opened rest)

-- the number by which a file names the kind of a block
abbrev pub kind_number : BlockHead → ℕ
kind_number heads.Module = 3
kind_number (heads.Global stack type_index offset) = 4
kind_number (heads.Source numbers) = 5
kind_number (heads.Local stack type_index offset) = 6
kind_number (heads.Section section_type section offset) = 11

-- the expression at the start of a block, for the kinds that have one
abbrev pub offset_of : BlockHead → Option Tree
offset_of heads.Module = None
offset_of (heads.Global stack type_index offset) = Some offset
offset_of (heads.Source numbers) = None
offset_of (heads.Local stack type_index offset) = Some offset
offset_of (heads.Section section_type section offset) = Some offset

-- the expressions of a mark
abbrev pub mark_expressions : DebugMark → List Tree
mark_expressions (block_begin head name) = option_to_list (offset_of head)
mark_expressions (block_end end) = option_to_list end
mark_expressions (name_mark name) = []
mark_expressions (note_mark name note) = []
mark_expressions (value_mark name value) = value ∷ []

-- all expressions, in order
abbrev pub expressions_of : List DebugMark → List Tree
expressions_of marks = flat_map mark_expressions marks
