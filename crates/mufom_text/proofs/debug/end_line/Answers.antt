use Rattle.mufom_text.proofs.debug.end_line.Goals as goal

pub returns : goal.returns
returns g c = let l = g.met.K.Output in (l.joins _ _ _ _ _ (l.joins _ _ _ _ _ c.indent.ensures c.end_text.ensures) c.put.ensures)
