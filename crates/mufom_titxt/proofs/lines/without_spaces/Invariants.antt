use Rattle.std.proofs.Common.{◌≡◌, ◌≤◌, length}
use Rattle.mufom_titxt.specs.Lines.{words_of}
use Rattle.mufom_titxt.proofs.lines.without_spaces.Given as goal

abbrev pub invariant-loop-rest : goal.invariant-loop-rest
invariant-loop-rest l = record { words : words_of l.rest ≡ words_of l.line; within : length l.rest ≤ length l.line }

abbrev pub decreases-loop-rest : goal.decreases-loop-rest
decreases-loop-rest l = length l.rest
