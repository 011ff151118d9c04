use Rattle.std.proofs.Common.{◌≡◌, length, take, sum_by}
use Rattle.mufom_meaning.specs.declared.located.Run.{Run}
use Rattle.mufom_make.proofs.summary.byte_count.Given as goal

abbrev pub invariant-loop-run : goal.invariant-loop-run
invariant-loop-run l = l.count ≡ sum_by (λ (run : Run). length run.bytes) (take l.run-index l.runs)
