-- Replacing the expressions of debug marks.
use Rattle.std.specs.Prelude.{option_map}
use Rattle.mufom_expr.specs.Tree.{Tree}
use Rattle.mufom_debug.specs.declared.item.BlockHead.{BlockHead}
use Rattle.mufom_debug.specs.declared.item.BlockHead.TheVariants as heads
use Rattle.mufom_debug.specs.Marks.{DebugMark, block_begin, block_end, name_mark, note_mark, value_mark}

-- the head of a block with its offset replaced
abbrev pub mapped_head : (Tree → Tree) → BlockHead → BlockHead
mapped_head f heads.Module = heads.Module
mapped_head f (heads.Global stack type_index offset) = heads.Global stack type_index (f offset)
mapped_head f (heads.Local stack type_index offset) = heads.Local stack type_index (f offset)
mapped_head f (heads.Source numbers) = heads.Source numbers
mapped_head f (heads.Section section_type section offset) = heads.Section section_type section (f offset)

-- a mark with its expression replaced, if it has one
abbrev pub mapped_mark : (Tree → Tree) → DebugMark → DebugMark
mapped_mark f (block_begin head name) = block_begin (mapped_head f head) name
mapped_mark f (block_end end) = block_end (option_map f end)
mapped_mark f (name_mark name) = name_mark name
mapped_mark f (note_mark name note) = note_mark name note
mapped_mark f (value_mark name value) = value_mark name (f value)
