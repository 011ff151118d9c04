use Rattle.std.proofs.Common.{take}
use Rattle.std.specs.Prelude.{All}
use Rattle.mufom_module.specs.Made.{IsMadeLoad}
use Rattle.mufom_module.proofs.made.loads.Given as goal

abbrev pub invariant-loop-next : goal.invariant-loop-next
invariant-loop-next l = All IsMadeLoad (take l.next-index l.loads)
