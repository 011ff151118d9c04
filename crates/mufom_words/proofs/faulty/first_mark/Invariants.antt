use Rattle.std.proofs.Common.{◌≡◌, drop}
use Rattle.mufom_words.specs.Faulty.{first_mark as wanted}
use Rattle.mufom_words.proofs.faulty.first_mark.Given as goal

abbrev pub invariant-loop-operand : goal.invariant-loop-operand
invariant-loop-operand l = wanted (drop l.operand-index l.operands) ≡ wanted l.operands
