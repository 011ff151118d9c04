use Rattle.mufom_text.proofs.debug.block_line.Goals as goal

pub returns : goal.returns
returns g c = λ n. let l = g.met.K.Output in (l.joins _ _ _ _ _
    (l.joins _ _ _ _ _ (l.joins _ _ _ _ _ (l.joins _ _ _ _ _ (l.joins _ _ _ _ _ (l.joins _ _ _ _ _ c.indent.ensures c.put.ensures)
    (rw c.kind.ensures at c.number.ensures)) c.put-2.ensures) c.quoted.ensures) c.head_text.ensures) c.put-3.ensures)
