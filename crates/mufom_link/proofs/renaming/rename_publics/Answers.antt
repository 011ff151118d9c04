use Rattle.std.proofs.Common.{◌<◌, length, arith}
use Rattle.mufom_link.specs.Renaming.{renaming_of, renamed_public}
use Rattle.mufom_link.proofs.LoopLaws.{changed-more}
use Rattle.mufom_link.proofs.renaming.rename_publics.Goals as goal

pub loop-public-preserved : goal.loop-public-preserved
loop-public-preserved c =
    let now = c.loop-public.public-items in
    let within : c.loop-public.public-index < length now = omega (arith, c.loop-public-test.true, c.loop-public.auto.public-items) in
    changed-more (renamed_public (renaming_of c.args.site.now)) c.args.publics.items now c.loop-public.public-index c.public-item.result
    c.rename_public.new.public within c.loop-public.invariant c.rename_public.ensures
