use Rattle.mufom_explain.proofs.entries.line_of_base.Goals as goal

pub returns : goal.returns
returns g c = let l = g.met.K.Output in l.joins _ _ _ _ _ c.put.ensures c.hex.ensures
