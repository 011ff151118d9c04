use Rattle.std.proofs.Common.{◌≡◌, ◌≤◌, drop, map}
use Rattle.mufom_words.specs.Operands.{depth_in, fault_from, file_words, grouped_fault as wrong_group}
use Rattle.mufom_words.proofs.operands.grouped_fault.Given as goal

abbrev pub invariant-loop-word : goal.invariant-loop-word
invariant-loop-word l = record {
  rest : fault_from l.walk (file_words (map (λ word. word.now) (drop l.word-index l.words))) ≡ wrong_group (file_words (map (λ word. word.now) l.words));
  depth : depth_in l.walk ≤ l.word-index;
}
