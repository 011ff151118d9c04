use Rattle.mufom_text.proofs.debug.note_line.Goals as goal

pub returns : goal.returns
returns g c = λ n. let l = g.met.K.Output in (l.joins _ _ _ _ _
    (l.joins _ _ _ _ _ (l.joins _ _ _ _ _ (l.joins _ _ _ _ _ c.indent.ensures c.put.ensures) c.number.ensures) c.note_text.ensures) c.put-2.ensures)
