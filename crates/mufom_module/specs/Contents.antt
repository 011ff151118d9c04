-- What is in a module: the expressions of its loads and debug items, its blocks, and its loads with the section that
-- is current before each (IEEE Std 695, module structure).
use Rattle.std.specs.Prelude.{ℕ, Bool, List, [], ◌∷◌, map, false, Option, Some, None}
use Rattle.std.specs.List.{list_any}
use Rattle.mufom_expr.specs.Tree.{Tree}
use Rattle.mufom_loads.specs.declared.load.Item.{Item}
use Rattle.mufom_loads.specs.declared.load.Item.TheVariants.{Literal, Field}
use Rattle.mufom_loads.specs.declared.load.Load.{Load}
use Rattle.mufom_loads.specs.declared.load.Load.TheVariants.{SetSection, SetPc, One, Repeat}
use Rattle.mufom_debug.specs.declared.item.BlockHead.{BlockHead}
use Rattle.mufom_debug.specs.declared.item.DebugItem.{DebugItem, fold-DebugItem}
use Rattle.mufom_debug.specs.declared.item.DebugItem.TheOpen.{DebugItem-F, Block-F}
use Rattle.mufom_debug.specs.Marks.{DebugMark, block_begin, block_end, name_mark, note_mark, value_mark, joined, marks_of, offset_of}
use Rattle.mufom_module.specs.declared.module.Parts.{Parts}

-- there is a value, and it passes the test
abbrev pub any_of : {X : Type 0} → (X → Bool) → Option X → Bool
any_of test None = false
any_of test (Some x) = test x

-- the marks of the debug part, in the order of the file
abbrev pub debug_marks : Parts → List DebugMark
debug_marks m = marks_of m.debug

-- an expression of a mark passes the test
abbrev pub any_expression : (Tree → Bool) → DebugMark → Bool
any_expression test (block_begin head name) = any_of test (offset_of head)
any_expression test (block_end end) = any_of test end
any_expression test (name_mark name) = false
any_expression test (note_mark name note) = false
any_expression test (value_mark name value) = test value

-- an item of a load, or of a repeat, passes the test
abbrev pub any_item : (Item → Bool) → Load → Bool
any_item test (SetSection section) = false
any_item test (SetPc section value) = false
any_item test (One item) = test item
any_item test (Repeat count items) = list_any test items

-- an expression of an item passes the test
abbrev pub item_any : (Tree → Bool) → Item → Bool
item_any test (Literal bytes) = false
item_any test (Field kind size value) = test value

-- an expression of a load passes the test
abbrev pub load_any : (Tree → Bool) → Load → Bool
load_any test (SetSection section) = false
load_any test (SetPc section value) = test value
load_any test (One item) = item_any test item
load_any test (Repeat count items) = list_any (item_any test) items

-- the section that is current after a load
abbrev pub current_after : Option ℕ → Load → Option ℕ
current_after current (SetSection section) = Some section
current_after current (SetPc section value) = current
current_after current (One item) = current
current_after current (Repeat count items) = current

-- each load with the section that is current before it
abbrev pub placed_from : Option ℕ → List Load → List (Option ℕ × Load)
placed_from current [] = []
placed_from current (load ∷ loads) = (current, load) ∷ placed_from (current_after current load) loads

-- the loads of a module, before which no section is current
abbrev pub placed_loads : Parts → List (Option ℕ × Load)
placed_loads m = placed_from None m.loads

-- the head and the end of a block
abbrev pub HeadAndEnd : Type 0
HeadAndEnd = BlockHead × Option Tree

-- a block and the blocks inside it, given the blocks of each of its items
abbrev pub block_step : Block-F (List HeadAndEnd) (List HeadAndEnd) → List HeadAndEnd
block_step b = (b.head, b.end) ∷ joined b.items

-- the blocks of an item; those of a block are given
abbrev pub item_step : DebugItem-F (List HeadAndEnd) (List HeadAndEnd) → List HeadAndEnd
item_step (DebugItem-F.Block blocks) = blocks
item_step (DebugItem-F.Name name) = []
item_step (DebugItem-F.Note name note) = []
item_step (DebugItem-F.Value name value) = []

-- the blocks of an item, at any depth
abbrev pub blocks_of_item : DebugItem → List HeadAndEnd
blocks_of_item = fold-DebugItem (List HeadAndEnd) (List HeadAndEnd) item_step block_step

-- the blocks of items, at any depth
abbrev pub blocks_of : List DebugItem → List HeadAndEnd
blocks_of items = joined (map blocks_of_item items)
