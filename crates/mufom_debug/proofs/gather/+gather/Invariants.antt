use Rattle.std.proofs.Common.{◌≡◌, ◌++◌, map, take}
use Rattle.mufom_debug.specs.Marks.{marks_of, expressions_of}
use Rattle.mufom_debug.proofs.gather.+gather.Given as goal

abbrev pub invariant-gather-loop-item : goal.invariant-gather-loop-item
invariant-gather-loop-item l = map (λ e. e.now) l.list.items ≡ map (λ e. e.now) l.fn.list.items ++ expressions_of (marks_of (take l.item-index l.items))
