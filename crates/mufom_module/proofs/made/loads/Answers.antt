use Rattle.std.proofs.Common.{subst}
use Rattle.std.specs.Prelude.{All}
use Rattle.std.proofs.lemmas.List.{take_all}
use Rattle.std.proofs.lemmas.List.Elements.{All-more}
use Rattle.mufom_module.specs.Made.{IsMadeLoad}
use Rattle.mufom_module.proofs.made.loads.Goals as goal

pub loop-next-preserved : goal.loop-next-preserved
loop-next-preserved c =
    let made = subst IsMadeLoad c.next-item.is c.load.ensures in
    All-more IsMadeLoad c.args.loads.now c.loop-next.next-index c.next-item.result c.loop-next-test.true c.loop-next.invariant made

pub returns : goal.returns
returns c = subst (All IsMadeLoad) (take_all c.loop-next.next-index c.args.loads.now c.loop-next-test.false) c.loop-next.invariant
