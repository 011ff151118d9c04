use Rattle.mufom_text.proofs.loads.field_text.Goals as goal

pub returns : goal.returns
returns g c = let l = g.met.K.Output in (l.joins _ _ _ _ _ (l.joins _ _ _ _ _
    (l.joins _ _ _ _ _ (l.joins _ _ _ _ _ (l.joins _ _ _ _ _ c.put.ensures (rw c.kind_text.ensures at c.put-2.ensures)) c.put-3.ensures)
    c.number.ensures) c.put-4.ensures) c.expression.ensures)
