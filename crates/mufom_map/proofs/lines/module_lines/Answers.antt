use Rattle.mufom_text.proofs.Loops.{each-step}
use Rattle.mufom_map.specs.MapText.{module_line}
use Rattle.mufom_origins.specs.Words.{all_files}
use Rattle.mufom_map.proofs.lines.module_lines.Goals as goal

pub loop-position-preserved : goal.loop-position-preserved
loop-position-preserved g c =
    each-step g.K.Output.takes g.met.K.Output.joins (module_line (all_files c.args.names.now)) c.args.origins.now c.loop-position.position
    c.index-origins-position.result c.index-origins-position.result _ _ _
    c.loop-position-test.true c.index-origins-position.is c.loop-position.invariant c.module_line.ensures
