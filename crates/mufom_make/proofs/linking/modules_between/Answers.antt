use Rattle.std.proofs.Common.{◌∙◌}
use Rattle.mufom_make.proofs.ListLaws.{one-longer}
use Rattle.mufom_make.proofs.linking.modules_between.Goals as goal

pub loop-number-preserved : goal.loop-number-preserved
loop-number-preserved c =
    c.in_ok-push.ensures.items
    ∙ one-longer c.args.count c.args.first c.loop-number.number c.loop-number.modules.items c.in_ok-module_at.field-0 c.loop-number.auto.number
    c.loop-number.invariant c.in_ok-module_at.ensures
