use Rattle.mufom_explain.proofs.entries.copy_line.Goals as goal

pub returns : goal.returns
returns g c = let l = g.met.K.Output in
    l.joins _ _ _ _ _ (l.joins _ _ _ _ _ c.described.ensures c.counted.ensures) c.put.ensures
