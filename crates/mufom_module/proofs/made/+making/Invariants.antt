use Rattle.std.proofs.Common.{take}
use Rattle.std.specs.Prelude.{All}
use Rattle.mufom_debug.specs.Marks.{marks_of}
use Rattle.mufom_module.specs.Made.{IsMadeMark}
use Rattle.mufom_module.proofs.made.+making.Given as goal

abbrev pub invariant-debug_items-loop-item : goal.invariant-debug_items-loop-item
invariant-debug_items-loop-item l = All IsMadeMark (marks_of (take l.item-index l.items))
