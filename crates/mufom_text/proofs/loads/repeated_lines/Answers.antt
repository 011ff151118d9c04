use Rattle.std.proofs.Common.{codes, ◌++◌}
use Rattle.mufom_text.specs.Words.{line}
use Rattle.mufom_text.specs.Show.{item_text}
use Rattle.mufom_text.proofs.Loops.{flat-step}
use Rattle.mufom_text.proofs.loads.repeated_lines.Goals as goal

pub loop-item-preserved : goal.loop-item-preserved
loop-item-preserved g c = flat-step g.K.Output.takes g.met.K.Output.joins (λ item. line (codes "  " ++ item_text item)) c.args.items.now
    c.loop-item.item-index c.item-item.result _ _ _ _ c.loop-item-test.true c.item-item.is c.loop-item.invariant c.repeated_line.ensures
