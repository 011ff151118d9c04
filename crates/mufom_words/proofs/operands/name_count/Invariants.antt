use Rattle.std.proofs.Common.{◌≡◌, ◌+◌, ◌≤◌, drop, length, map}
use Rattle.mufom_words.specs.Operands.{names_in}
use Rattle.mufom_words.proofs.operands.name_count.Given as goal

abbrev pub invariant-loop-word : goal.invariant-loop-word
invariant-loop-word l = record {
  rest : l.count + length (names_in (map (λ word. word.now) (drop l.word-index l.words))) ≡ length (names_in (map (λ word. word.now) l.words));
  few : l.count ≤ l.word-index;
}
