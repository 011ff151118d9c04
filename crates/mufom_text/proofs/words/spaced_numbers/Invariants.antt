use Rattle.std.proofs.Common.{take}
use Rattle.mufom_text.specs.Words.{spaced_numbers}
use Rattle.mufom_text.proofs.words.spaced_numbers.Given as goal

abbrev pub invariant-loop-value : goal.invariant-loop-value
invariant-loop-value g l = g.K.Output.takes l.fn.out l.out (spaced_numbers (take l.value-index l.values))
