use Rattle.mufom_text.specs.Image.{public_text}
use Rattle.mufom_text.proofs.Loops.{flat-step}
use Rattle.mufom_text.proofs.image.located_publics.Goals as goal

pub loop-public-preserved : goal.loop-public-preserved
loop-public-preserved g c =
    flat-step g.K.Output.takes g.met.K.Output.joins (public_text c.args.maus) c.args.publics.now c.loop-public.public-index c.public-item.result _ _ _
    _ c.loop-public-test.true c.public-item.is c.loop-public.invariant c.public_line.ensures
