use Rattle.mufom_text.specs.Image.{run_text}
use Rattle.mufom_text.proofs.Loops.{flat-step}
use Rattle.mufom_text.proofs.image.runs.Goals as goal

pub loop-run-preserved : goal.loop-run-preserved
loop-run-preserved g c =
    flat-step g.K.Output.takes g.met.K.Output.joins (run_text c.args.maus) c.args.runs.now c.loop-run.run-index c.run-item.result _ _ _ _
    c.loop-run-test.true c.run-item.is c.loop-run.invariant c.run_lines.ensures
