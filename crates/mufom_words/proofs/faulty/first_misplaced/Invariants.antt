use Rattle.std.proofs.Common.{◌≡◌, ◌≤◌, drop, false}
use Rattle.mufom_words.specs.declared.operands.Walk.TheVariants.{Tree}
use Rattle.mufom_words.specs.Faulty.{first_misplaced as misplaced_from}
use Rattle.mufom_words.specs.Operands.{depth_in}
use Rattle.mufom_words.proofs.faulty.first_misplaced.Given as goal

abbrev pub invariant-loop-operand : goal.invariant-loop-operand
invariant-loop-operand l = record {
  rest : misplaced_from l.walk (drop l.operand-index l.operands) ≡ misplaced_from (Tree 0 false false) l.operands;
  depth : depth_in l.walk ≤ l.operand-index;
}
