use Rattle.std.proofs.Common.{◌<◌, length, arith}
use Rattle.mufom_link.specs.Renaming.{renaming_of, renamed_item}
use Rattle.mufom_link.proofs.LoopLaws.{changed-more}
use Rattle.mufom_link.proofs.renaming.rename_items.Goals as goal

pub loop-item-preserved : goal.loop-item-preserved
loop-item-preserved c =
    let now = c.loop-item.item-items in
    let within : c.loop-item.item-index < length now = omega (arith, c.loop-item-test.true, c.loop-item.auto.item-items) in
    changed-more (renamed_item (renaming_of c.args.site.now)) c.args.items.items now c.loop-item.item-index c.item-item.result c.rename_item.new.item
    within c.loop-item.invariant c.rename_item.ensures
