use Rattle.mufom_text.proofs.names.reference.Goals as goal

pub returns : goal.returns
returns g c = let l = g.met.K.Output in (l.joins _ _ _ _ _ c.reference_line.ensures (rw c.as_slice.ensures at c.note_lines.ensures))
