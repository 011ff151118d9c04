use Rattle.std.proofs.Common.{◌≡◌, ◌<◌, false, ℕ, get_or}
use Rattle.std.specs.Prelude.{◌==◌}
use Rattle.mufom_titxt.proofs.lines.word_length.Given as goal

abbrev pub invariant-loop-count : goal.invariant-loop-count
invariant-loop-count l = (k : ℕ) → k < l.count → (get_or l.text k 0 == 32) ≡ false
