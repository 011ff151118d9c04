use Rattle.mufom_text.proofs.sections.counted.Goals as goal

pub returns : goal.returns
returns g c = let l = g.met.K.Output in (l.joins _ _ _ _ _ c.number.ensures c.put.ensures)
