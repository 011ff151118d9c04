use Rattle.std.proofs.Common.{subst}
use Rattle.std.specs.Prelude.{All}
use Rattle.std.proofs.lemmas.List.{take_all}
use Rattle.std.proofs.lemmas.List.Elements.{All-more}
use Rattle.mufom_module.specs.Made.{IsMadeReference}
use Rattle.mufom_module.proofs.made.references.Goals as goal

pub loop-next-preserved : goal.loop-next-preserved
loop-next-preserved c =
    let made = subst IsMadeReference c.next-item.is c.reference.ensures in
    All-more IsMadeReference c.args.references.now c.loop-next.next-index c.next-item.result c.loop-next-test.true c.loop-next.invariant made

pub returns : goal.returns
returns c = subst (All IsMadeReference) (take_all c.loop-next.next-index c.args.references.now c.loop-next-test.false) c.loop-next.invariant
