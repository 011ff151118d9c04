use Rattle.std.proofs.Common.{◌≡◌, ◌+◌, ◌*◌, ◌≤◌, ◌^◌, drop, length, ℕ}
use Rattle.mufom_write.specs.Raw.{raw_image, runs_from}
use Rattle.mufom_write.proofs.raw.raw_length.Given as goal

abbrev pub invariant-loop-run : goal.invariant-loop-run
invariant-loop-run l = record {
  rest : (fill : ℕ) → l.count + length (runs_from fill l.end (drop l.run-index l.runs)) ≡ length (raw_image fill l.runs);
  few : l.count ≤ l.run-index * 2 ^ 65;
}
