use Rattle.std.proofs.Common.{take}
use Rattle.std.specs.Prelude.{All}
use Rattle.mufom_module.specs.Made.{IsMadeNote}
use Rattle.mufom_module.proofs.made.notes.Given as goal

abbrev pub invariant-loop-next : goal.invariant-loop-next
invariant-loop-next l = All IsMadeNote (take l.next-index l.notes)
