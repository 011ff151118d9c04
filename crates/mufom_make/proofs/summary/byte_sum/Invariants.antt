use Rattle.std.proofs.Common.{◌≡◌, ◌≤◌, ◌*◌, take, sum}
use Rattle.mufom_make.proofs.summary.byte_sum.Given as goal

abbrev pub invariant-loop-byte : goal.invariant-loop-byte
invariant-loop-byte l = record { sum : l.total ≡ sum (take l.byte-index l.bytes); bound : l.total ≤ 255 * l.byte-index }
