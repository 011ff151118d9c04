use Rattle.std.proofs.Common.{take}
use Rattle.std.specs.Prelude.{All}
use Rattle.mufom_module.specs.Made.{IsMadePublic}
use Rattle.mufom_module.proofs.made.publics.Given as goal

abbrev pub invariant-loop-next : goal.invariant-loop-next
invariant-loop-next l = All IsMadePublic (take l.next-index l.publics)
