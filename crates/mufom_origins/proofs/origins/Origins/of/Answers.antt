use Rattle.std.proofs.Common.{◌∙◌}
use Rattle.mufom_origins.proofs.ListLaws.{origins-more}
use Rattle.mufom_origins.proofs.origins.Origins.of.Goals as goal

pub loop-position-preserved : goal.loop-position-preserved
loop-position-preserved c =
    c.in_ok-push.ensures.items
    ∙ origins-more c.args.modules.now c.loop-position.position c.index-modules-position.result c.loop-position.origins.items c.in_ok-origin_of.field-0
    c.loop-position-test.true c.index-modules-position.is c.loop-position.invariant c.in_ok-origin_of.ensures
