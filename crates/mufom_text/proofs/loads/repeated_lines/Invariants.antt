use Rattle.std.proofs.Common.{take, flat_map, codes, ◌++◌}
use Rattle.mufom_text.specs.Words.{line}
use Rattle.mufom_text.specs.Show.{item_text}
use Rattle.mufom_text.proofs.loads.repeated_lines.Given as goal

abbrev pub invariant-loop-item : goal.invariant-loop-item
invariant-loop-item g l = g.K.Output.takes l.fn.out l.out (flat_map (λ item. line (codes "  " ++ item_text item)) (take l.item-index l.items))
