use Rattle.mufom_text.proofs.loads.item_line.Goals as goal

pub returns : goal.returns
returns g c = let l = g.met.K.Output in (l.joins _ _ _ _ _ c.item_text.ensures c.put.ensures)
