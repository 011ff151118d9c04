-- Blocks, notes and values of debug items in the order of the file, each with its position among the blocks around it (IEEE Std 695, block begin and
-- assignment commands of the debug information part).
use Rattle.std.specs.Prelude.{ℕ, ◌+◌, List, [], ◌∷◌, map, Option, Some, None}
use Rattle.mufom_expr.specs.Tree.{Tree}
use Rattle.mufom_names.specs.declared.name.Note.{Note}
use Rattle.mufom_debug.specs.declared.item.BlockHead.{BlockHead}
use Rattle.mufom_debug.specs.declared.item.BlockHead.TheVariants as heads
use Rattle.mufom_debug.specs.declared.item.DebugItem.{DebugItem, fold-DebugItem}
use Rattle.mufom_debug.specs.declared.item.DebugItem.TheOpen.{DebugItem-F, Block-F}
use Rattle.mufom_debug.specs.Marks.{joined}

-- the blocks around an item: their number, and the name of the innermost source file among them
pub record Around : Type 0 where
  pub depth : ℕ
  pub source : Option (List ℕ)

-- around items that are in no block
abbrev pub outermost : Around
outermost = record { depth = 0; source = None }

-- a block with what is around it, a note, or a value with the source file that it is in
pub data Entry : Type 0 where
  block : (depth : ℕ) → (head : BlockHead) → (name : List ℕ) → (end : Option Tree) → Entry
  note : (name : ℕ) → (note : Note) → Entry
  value : (source : Option (List ℕ)) → (name : ℕ) → (value : Tree) → Entry

-- the source file of the items in a block, given the one around the block
abbrev pub source_within : BlockHead → List ℕ → Option (List ℕ) → Option (List ℕ)
source_within heads.Module name source = source
source_within (heads.Global stack type_index offset) name source = source
source_within (heads.Source numbers) name source = Some name
source_within (heads.Local stack type_index offset) name source = source
source_within (heads.Section section_type section offset) name source = source

-- around the items in a block
abbrev pub within : BlockHead → List ℕ → Around → Around
within head name around = record { depth = around.depth + 1; source = source_within head name around.source }

-- the entries of some items, given what is around them
abbrev pub Placed : Type 0
Placed = Around → List Entry

abbrev pub all_placed : List Placed → Placed
all_placed items around = joined (map (λ item. item around) items)

-- the entries of a block, in which each item is replaced by its entries
abbrev pub block_entries : Block-F Placed Placed → Placed
block_entries b around = block around.depth b.head b.name b.end ∷ all_placed b.items (within b.head b.name around)

-- the entries of an item, in which a block is replaced by its entries
abbrev pub item_entries : DebugItem-F Placed Placed → Placed
item_entries (DebugItem-F.Block entries) around = entries around
item_entries (DebugItem-F.Name name) around = []
item_entries (DebugItem-F.Note name n) around = note name n ∷ []
item_entries (DebugItem-F.Value name v) around = value around.source name v ∷ []

-- the entries of an item; for a block, its own entry and those of its items
abbrev pub entries_of_item : DebugItem → Placed
entries_of_item = fold-DebugItem Placed Placed item_entries block_entries

-- the entries of items, one after another
abbrev pub entries_of : List DebugItem → Placed
entries_of items = all_placed (map entries_of_item items)
