-- The debug items read so far, and the blocks that are still open, as the code keeps them.
use Rattle.std.specs.Prelude.{◌≡◌, List, [], ◌∷◌, ◌++◌, map}
use Rattle.std.specs.List.{cons_option}
use Rattle.mufom_debug.specs.Marks.{DebugMark, block_begin, joined, marks_of, kind_number}
use Rattle.mufom_module.specs.SpelledRecords.{SpelledRecord}
use Rattle.mufom_module.specs.Gathered.{mark_by}
use Rattle.mufom_read.specs.declared.debug.OpenBlock as code
use Rattle.mufom_read.specs.declared.debug.Debugs.{Debugs}
use Rattle.mufom_judging.specs.Prefixes.{OffsetRecord}
use Rattle.mufom_judging.specs.Faults.{OpenBlock, open_blocks}
use Rattle.mufom_read.specs.Kept.{tables_of, indexes_by}
use Rattle.mufom_read.specs.NamesSoFar.{records_in}

-- ---- blocks

-- an open block of the code as a block of the spec: its offset and its kind
abbrev pub as_opened : code.OpenBlock → OpenBlock
as_opened b = (b.start, kind_number b.head)

-- the open blocks of the code, inside the blocks of `outer`; the innermost is first here, and last in the code
abbrev pub stacked : List OpenBlock → List code.OpenBlock → List OpenBlock
stacked outer [] = outer
stacked outer (b ∷ blocks) = stacked (as_opened b ∷ outer) blocks

-- the blocks that are open
abbrev pub opened : Debugs → List OpenBlock
opened d = stacked [] d.blocks

-- ---- marks

-- the debug records of the items before an open block at its level, and its BB
abbrev pub marks_to_block : code.OpenBlock → List DebugMark
marks_to_block b = marks_of b.before ++ block_begin b.head b.name ∷ []

-- The debug records so far: for each open block, from the outermost inwards, the records up to its BB; then the records of
-- the items of the innermost block.
abbrev pub marks_kept : Debugs → List DebugMark
marks_kept d = joined (map marks_to_block d.blocks) ++ marks_of d.items

-- the debug records of further records, each by the indexes of those before it
abbrev pub marks_from : List SpelledRecord → List SpelledRecord → List DebugMark
marks_from before [] = []
marks_from before (p ∷ records) = cons_option (mark_by (indexes_by (tables_of before)) p p.row) (marks_from (before ++ p ∷ []) records)

-- the debug records that these records state
abbrev pub marks_so_far : List SpelledRecord → List DebugMark
marks_so_far records = marks_from [] records

-- The code keeps the debug items of these records, and the blocks that are open after them.
pub record AreDebugOf (d : Debugs) (all : List OffsetRecord) : Type 0 where
  pub marks : marks_kept d ≡ marks_so_far (records_in all)
  pub blocks : opened d ≡ open_blocks all
