use Rattle.std.proofs.Common.{◌≡◌, ◌++◌}
use Rattle.std.specs.Int.{bytes_high_first}
use Rattle.mufom_outcome.proofs.locate_text.last_bytes.Given as goal

abbrev pub invariant-loop-place : goal.invariant-loop-place
invariant-loop-place l = l.bytes.items ++ bytes_high_first l.place l.number ≡ bytes_high_first l.count l.number

abbrev pub decreases-loop-place : goal.decreases-loop-place
decreases-loop-place l = l.place
