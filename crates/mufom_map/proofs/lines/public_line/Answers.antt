use Rattle.mufom_map.proofs.lines.public_line.Goals as goal

pub returns : goal.returns
returns g c = let l = g.met.K.Output in l.joins _ _ _ _ _ c.public_text.ensures c.put.ensures
