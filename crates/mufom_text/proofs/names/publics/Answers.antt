use Rattle.mufom_text.specs.Show.{public_lines}
use Rattle.mufom_text.proofs.Loops.{each-step}
use Rattle.mufom_text.proofs.names.publics.Goals as goal

pub loop-position-preserved : goal.loop-position-preserved
loop-position-preserved g c =
    each-step g.K.Output.takes g.met.K.Output.joins public_lines c.args.publics.now c.loop-position.position c.index-publics-position.result
    c.index-publics-position.result _ _ _ c.loop-position-test.true c.index-publics-position.is c.loop-position.invariant c.public.ensures
