use Rattle.std.proofs.Common.{◌≡◌, map, take}
use Rattle.mufom_debug.specs.Marks.{marks_of}
use Rattle.mufom_copies.specs.Mapped.{mapped_mark}
use Rattle.mufom_copies.proofs.debug.+copying.Given as goal

abbrev pub invariant-map_debug_items-loop-item : goal.invariant-map_debug_items-loop-item
invariant-map_debug_items-loop-item g l = marks_of l.copies ≡ map (mapped_mark (g.M.ExpressionMap.meaning l.map)) (marks_of (take l.item-index l.items))
