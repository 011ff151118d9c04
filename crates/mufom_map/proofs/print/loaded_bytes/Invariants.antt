use Rattle.std.proofs.Common.{◌≡◌, ◌≤◌, ◌*◌, length, take, sum_by}
use Rattle.mufom_meaning.specs.declared.located.Run.{Run}
use Rattle.mufom_map.proofs.print.loaded_bytes.Given as goal

abbrev pub invariant-loop-run : goal.invariant-loop-run
invariant-loop-run l = record {
  so_far : l.total ≡ sum_by (λ (run : Run). length run.bytes) (take l.run-index l.runs);
  low : l.total ≤ l.run-index * 18446744073709551615;
}
