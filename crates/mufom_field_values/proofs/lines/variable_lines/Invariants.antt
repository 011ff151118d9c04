use Rattle.std.proofs.Common.{[], take}
use Rattle.mufom_field_values.specs.Lines.{variable_lines}
use Rattle.mufom_field_values.proofs.lines.variable_lines.Given as goal

abbrev pub invariant-loop-at : goal.invariant-loop-at
invariant-loop-at g l = g.K.Output.takes l.fn.out l.out (variable_lines l.parts [] (take l.at l.variables))
