use Rattle.mufom_field_values.proofs.lines.FieldValueLines.put_lines.Goals as goal

pub returns : goal.returns
returns g c = let l = g.met.K.Output in l.joins _ _ _ _ _ c.infix_line.ensures (rw c.deref.ensures.value at c.variable_lines.ensures)
