use Rattle.std.proofs.Common.{◌≡◌, ◌+◌, ◌-◌, ◌≤◌, ◌++◌, length, take}
use Rattle.std.specs.List.{All}
use Rattle.mufom_meaning.specs.AddressMap.{cells_from, run_cells}
use Rattle.mufom_moves.specs.Joined.{HasBytes}
use Rattle.mufom_moves.specs.Shifts.{shifted_cells, AreRisingFrom, MoveAlikeFrom}
use Rattle.mufom_moves.proofs.pieces.cut_run.Given as goal

abbrev pub invariant-loop-done : goal.invariant-loop-done
invariant-loop-done l = record {
  within : l.done ≤ length l.run.bytes;
  rising : AreRisingFrom 0 l.rest;
  alike : MoveAlikeFrom (l.run.address + l.done) l.rest l.shifts;
  filled : All HasBytes l.moved.items;
  cells : run_cells l.moved.items ≡ run_cells l.fn.moved.items ++ shifted_cells l.shifts (cells_from l.run.address (take l.done l.run.bytes));
}

abbrev pub decreases-loop-done : goal.decreases-loop-done
decreases-loop-done l = length l.run.bytes - l.done
