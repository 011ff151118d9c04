use Rattle.std.proofs.Common.{take}
use Rattle.std.specs.Prelude.{All}
use Rattle.mufom_module.specs.Made.{IsMadeItem}
use Rattle.mufom_module.proofs.made.items.Given as goal

abbrev pub invariant-loop-next : goal.invariant-loop-next
invariant-loop-next l = All IsMadeItem (take l.next-index l.items)
