use Rattle.mufom_map.proofs.regions.bar.Goals as goal

pub returns : goal.returns
returns g c = let l = g.met.K.Output in
    l.joins _ _ _ _ _ c.put.ensures (l.joins _ _ _ _ _ c.signs.ensures c.put-2.ensures)
