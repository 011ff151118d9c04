-- Debug items of which some blocks are still open.
use Rattle.std.specs.Prelude.{◌≡◌, List, [], ◌∷◌, ◌++◌, length, flat_map}
use Rattle.mufom_debug.specs.declared.item.DebugItem.{DebugItem}
use Rattle.mufom_debug.specs.Marks.{DebugMark, block_begin, marks_of, names_after_all}
use Rattle.mufom_text.specs.Show.{depth_after_all}
use Rattle.mufom_build.specs.declared.outline.OpenBlock.{OpenBlock}
use Rattle.mufom_build.specs.declared.outline.Outline.{Outline}

-- the debug records before an open block, and the record of its beginning
abbrev pub open_marks : OpenBlock → List DebugMark
open_marks b = marks_of b.before ++ block_begin b.head b.name ∷ []

-- the debug records of open blocks, the innermost last, and of the items in the innermost
abbrev pub outline_marks : List OpenBlock → List DebugItem → List DebugMark
outline_marks open_blocks items = flat_map open_marks open_blocks ++ marks_of items

-- the debug records that have been read
abbrev pub marks_so_far : Outline → List DebugMark
marks_so_far o = outline_marks o.blocks.items o.items

-- The counts of the outline are those of its debug records.
pub record IsKept (o : Outline) : Type 0 where
  pub depth : depth_after_all 0 (marks_so_far o) ≡ length o.blocks.items
  pub names : names_after_all 0 (marks_so_far o) ≡ o.names
