use Rattle.mufom_text.proofs.loads.counter_line.Goals as goal

pub returns : goal.returns
returns g c = let l = g.met.K.Output in (l.joins _ _ _ _ _ (l.joins _ _ _ _ _
    (l.joins _ _ _ _ _ (l.joins _ _ _ _ _ c.put.ensures c.number.ensures) c.put-2.ensures) c.expression.ensures) c.put-3.ensures)
