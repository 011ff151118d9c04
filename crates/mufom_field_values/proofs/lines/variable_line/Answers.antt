use Rattle.mufom_field_values.proofs.lines.variable_line.Goals as goal

pub returns : goal.returns
returns g c = let l = g.met.K.Output in
    l.joins _ _ _ _ _ (l.joins _ _ _ _ _ c.put.ensures
    (l.joins _ _ _ _ _ (rw (c.as_bytes.ensures.value, c.letter_name.ensures) at c.numbered.ensures)
    (l.joins _ _ _ _ _ c.put-2.ensures (rw c.name_of.ensures at c.quoted.ensures)))) c.put-3.ensures
