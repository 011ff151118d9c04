use Rattle.std.proofs.Common.{◌≡◌, [], drop, fold, reverse}
use Rattle.mufom_words.specs.Faulty.{open_after}
use Rattle.mufom_words.proofs.faulty.last_open.Given as goal

abbrev pub invariant-loop-operand : goal.invariant-loop-operand
invariant-loop-operand l = fold open_after (reverse l.opened.items) (drop l.operand-index l.operands) ≡ fold open_after [] l.operands
