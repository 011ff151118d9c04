use Rattle.std.proofs.Common.{◌≡◌, ◌≤◌, drop, map}
use Rattle.std.specs.Prelude.{max}
use Rattle.mufom_words.specs.Operands.{depth_from, file_words}
use Rattle.mufom_words.proofs.operands.greatest_depth.Given as goal

abbrev pub invariant-loop-word : goal.invariant-loop-word
invariant-loop-word l = record {
  rest : max l.greatest (depth_from l.depth (file_words (map (λ word. word.now) (drop l.word-index l.words))))
      ≡ depth_from 0 (file_words (map (λ word. word.now) l.words));
  few : l.depth ≤ l.word-index;
}
