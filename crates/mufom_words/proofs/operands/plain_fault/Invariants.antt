use Rattle.std.proofs.Common.{◌≡◌, drop, false, map}
use Rattle.mufom_words.specs.Operands.{file_words, plain_fault_from}
use Rattle.mufom_words.proofs.operands.plain_fault.Given as goal

abbrev pub invariant-loop-word : goal.invariant-loop-word
invariant-loop-word l = plain_fault_from l.any (file_words (map (λ word. word.now) (drop l.word-index l.words)))
    ≡ plain_fault_from false (file_words (map (λ word. word.now) l.words))
