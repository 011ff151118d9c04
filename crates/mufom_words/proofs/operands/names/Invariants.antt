use Rattle.std.proofs.Common.{◌≡◌, ◌++◌, drop, map}
use Rattle.mufom_words.specs.Operands.{names_in}
use Rattle.mufom_words.proofs.operands.names.Given as goal

abbrev pub invariant-loop-word : goal.invariant-loop-word
invariant-loop-word l = l.names ++ names_in (map (λ word. word.now) (drop l.word-index l.words)) ≡ names_in (map (λ word. word.now) l.words)
