use Rattle.mufom_explain.proofs.entries.common_lines.Goals as goal

pub returns : goal.returns
returns g c = let l = g.met.K.Output in
    l.joins _ _ _ _ _ (l.joins _ _ _ _ _ c.described.ensures c.put.ensures) (rw c.as_slice.ensures at c.asking_lines.ensures)
