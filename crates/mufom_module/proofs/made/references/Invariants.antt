use Rattle.std.proofs.Common.{take}
use Rattle.std.specs.Prelude.{All}
use Rattle.mufom_module.specs.Made.{IsMadeReference}
use Rattle.mufom_module.proofs.made.references.Given as goal

abbrev pub invariant-loop-next : goal.invariant-loop-next
invariant-loop-next l = All IsMadeReference (take l.next-index l.references)
