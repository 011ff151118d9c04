use Rattle.std.proofs.Common.{◌≡◌, length, take, drop}
use Rattle.mufom_meaning.specs.AddressMap.{run_cells}
use Rattle.mufom_moves.specs.Joined.{AreSpread, joiner_cells, IsJoining}
use Rattle.mufom_moves.proofs.joining.joined_runs.Given as goal

abbrev pub invariant-loop-run : goal.invariant-loop-run
invariant-loop-run l = record {
  joining : IsJoining l.joiner;
  spread : AreSpread l.joiner.end (drop (length l.yielded) l.fn.runs.items);
  cells : joiner_cells l.joiner ≡ run_cells (take (length l.yielded) l.fn.runs.items);
}
