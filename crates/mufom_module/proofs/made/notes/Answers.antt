use Rattle.std.proofs.Common.{subst}
use Rattle.std.specs.Prelude.{All}
use Rattle.std.proofs.lemmas.List.{take_all}
use Rattle.std.proofs.lemmas.List.Elements.{All-more}
use Rattle.mufom_module.specs.Made.{IsMadeNote}
use Rattle.mufom_module.proofs.made.notes.Goals as goal

pub loop-next-preserved : goal.loop-next-preserved
loop-next-preserved c =
    let made = subst IsMadeNote c.next-item.is c.note.ensures in
    All-more IsMadeNote c.args.notes.now c.loop-next.next-index c.next-item.result c.loop-next-test.true c.loop-next.invariant made

pub returns : goal.returns
returns c = subst (All IsMadeNote) (take_all c.loop-next.next-index c.args.notes.now c.loop-next-test.false) c.loop-next.invariant
