use Rattle.std.proofs.Common.{◌≡◌, ◌≤◌, ◌++◌, drop, map}
use Rattle.mufom_words.specs.Operands.{file_words, marks_from}
use Rattle.mufom_words.proofs.operands.tree_marks.Given as goal

abbrev pub invariant-loop-word : goal.invariant-loop-word
invariant-loop-word l = record {
  rest : l.marks ++ marks_from l.next (file_words (map (λ word. word.now) (drop l.word-index l.words)))
      ≡ marks_from 0 (file_words (map (λ word. word.now) l.words));
  few : l.next ≤ l.word-index;
}
