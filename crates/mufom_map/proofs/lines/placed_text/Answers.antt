use Rattle.mufom_map.proofs.lines.placed_text.Goals as goal

pub returns : goal.returns
returns g c = let l = g.met.K.Output in
    l.joins _ _ _ _ _ c.counted.ensures (l.joins _ _ _ _ _ c.put.ensures (l.joins _ _ _ _ _ (rw c.base_of.ensures at c.hex.ensures)
    (l.joins _ _ _ _ _ c.counted-2.ensures (l.joins _ _ _ _ _ c.counted-3.ensures (l.joins _ _ _ _ _ c.put-2.ensures
    (rw c.as_slice.ensures at c.quoted.ensures))))))
