use Rattle.std.proofs.Common.{◌≡◌, length, is_some}
use Rattle.mufom_titxt.specs.Lines.{bytes_of, words_of}
use Rattle.mufom_titxt.proofs.shape.has_bytes_alone.Given as goal

abbrev pub invariant-loop-byte : goal.invariant-loop-byte
invariant-loop-byte l = is_some (bytes_of (words_of l.line)) ≡ is_some (bytes_of (words_of l.rest))

abbrev pub decreases-loop-byte : goal.decreases-loop-byte
decreases-loop-byte l = length l.rest
