use Rattle.mufom_map.proofs.lines.line_of_start.Goals as goal

pub returns : goal.returns
returns g c = let l = g.met.K.Output in
    l.joins _ _ _ _ _ (l.joins _ _ _ _ _ c.put.ensures (l.joins _ _ _ _ _ c.hex.ensures c.in_module.ensures)) c.put-2.ensures
