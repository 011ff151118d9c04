use Rattle.std.proofs.Common.{◌<◌, length, arith}
use Rattle.mufom_link.specs.Renaming.{renaming_of, renamed_load}
use Rattle.mufom_link.proofs.LoopLaws.{changed-more}
use Rattle.mufom_link.proofs.renaming.rename_loads.Goals as goal

pub loop-load-preserved : goal.loop-load-preserved
loop-load-preserved c =
    let now = c.loop-load.load-items in
    let within : c.loop-load.load-index < length now = omega (arith, c.loop-load-test.true, c.loop-load.auto.load-items) in
    changed-more (renamed_load (renaming_of c.args.site.now)) c.args.loads.items now c.loop-load.load-index c.load-item.result c.rename_load.new.load
    within c.loop-load.invariant c.rename_load.ensures
