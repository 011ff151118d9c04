use Rattle.std.proofs.Common.{◌≡◌, ◌++◌, length, option_map}
use Rattle.mufom_titxt.specs.Lines.{bytes_of, words_of}
use Rattle.mufom_titxt.proofs.shape.short_bytes.Given as goal

abbrev pub invariant-loop-byte : goal.invariant-loop-byte
invariant-loop-byte l = bytes_of (words_of l.line) ≡ option_map (λ more. l.bytes.items ++ more) (bytes_of (words_of l.rest))

abbrev pub decreases-loop-byte : goal.decreases-loop-byte
decreases-loop-byte l = length l.rest
