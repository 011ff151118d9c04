use Rattle.std.proofs.Common.{◌≡◌, ◌≤◌, ◌*◌, length, take, sum, sum_by}
use Rattle.mufom_meaning.specs.declared.located.Run.{Run}
use Rattle.mufom_make.proofs.summary.run_sum.Given as goal

abbrev pub invariant-loop-run : goal.invariant-loop-run
invariant-loop-run l = record {
  sum : l.total ≡ sum_by (λ (run : Run). sum run.bytes) (take l.run-index l.runs);
  bound : l.total ≤ 255 * sum_by (λ (run : Run). length run.bytes) (take l.run-index l.runs);
}
