use Rattle.mufom_explain.proofs.shared.symbol_line.Goals as goal

pub returns : goal.returns
returns g c = let l = g.met.K.Output in
    l.joins _ _ _ _ _ (l.joins _ _ _ _ _ c.quoted.ensures (l.joins _ _ _ _ _ c.counted.ensures c.put.ensures)) c.put-2.ensures
