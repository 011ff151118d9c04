use Rattle.mufom_text.proofs.sections.some_raw.Goals as goal

pub returns : goal.returns
returns g c = let l = g.met.K.Output in (l.joins _ _ _ _ _ (l.joins _ _ _ _ _ (l.joins _ _ _ _ _ c.put.ensures c.put-2.ensures) c.raw_text.ensures)
    c.put-3.ensures)
