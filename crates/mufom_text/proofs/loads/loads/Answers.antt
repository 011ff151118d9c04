use Rattle.mufom_text.specs.Show.{load_lines}
use Rattle.mufom_text.proofs.Loops.{flat-step}
use Rattle.mufom_text.proofs.loads.loads.Goals as goal

pub loop-one-preserved : goal.loop-one-preserved
loop-one-preserved g c = flat-step g.K.Output.takes g.met.K.Output.joins (load_lines c.args.form) c.args.loads.now c.loop-one.one-index
    c.one-item.result _ _ _ _ c.loop-one-test.true c.one-item.is c.loop-one.invariant c.load.ensures
