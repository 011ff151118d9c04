use Rattle.mufom_map.proofs.lines.offset_line.Goals as goal

pub returns : goal.returns
returns g c = let l = g.met.K.Output in
    l.joins _ _ _ _ _ (l.joins _ _ _ _ _ c.public_text.ensures (rw c.saturating_sub.ensures at c.counted.ensures)) c.put.ensures
