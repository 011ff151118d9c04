use Rattle.std.proofs.Common.{◌≤◌, length}
use Rattle.mufom_build.proofs.Numbers.{HasNumbers}
use Rattle.mufom_build.proofs.read_names.read_numbers.Given as goal

abbrev pub invariant-loop-cursor : goal.invariant-loop-cursor
invariant-loop-cursor g l = record {
  numbers : HasNumbers g.row.N l.numbers.items l.fn.cursor l.cursor;
  within : length l.numbers.items ≤ g.row.N;
}

abbrev pub decreases-loop-cursor : goal.decreases-loop-cursor
decreases-loop-cursor g l = length l.cursor.rest
