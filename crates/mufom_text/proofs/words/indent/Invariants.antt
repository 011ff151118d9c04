use Rattle.mufom_text.specs.Words.{indent}
use Rattle.mufom_text.proofs.words.indent.Given as goal

abbrev pub invariant-loop : goal.invariant-loop
invariant-loop g l = g.K.Output.takes l.fn.out l.out (indent l.counter)
