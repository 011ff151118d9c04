use Rattle.std.proofs.Common.{◌≡◌, take}
use Rattle.mufom_select.specs.Choice.{positions_from}
use Rattle.mufom_select.proofs.choosing.positions.Given as goal

abbrev pub invariant-loop-position : goal.invariant-loop-position
invariant-loop-position l = l.positions ≡ positions_from 0 (take l.position l.marks)
