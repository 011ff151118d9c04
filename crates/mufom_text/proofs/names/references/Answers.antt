use Rattle.mufom_text.specs.Show.{reference_lines}
use Rattle.mufom_text.proofs.Loops.{each-step}
use Rattle.mufom_text.proofs.names.references.Goals as goal

pub loop-position-preserved : goal.loop-position-preserved
loop-position-preserved g c =
    each-step g.K.Output.takes g.met.K.Output.joins reference_lines c.args.references.now c.loop-position.position c.index-references-position.result
    c.index-references-position.result _ _ _ c.loop-position-test.true c.index-references-position.is c.loop-position.invariant c.reference.ensures
