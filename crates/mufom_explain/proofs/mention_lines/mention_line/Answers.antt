use Rattle.mufom_explain.proofs.mention_lines.mention_line.Goals as goal

pub returns : goal.returns
returns g c = let l = g.met.K.Output in
    l.joins _ _ _ _ _ (l.joins _ _ _ _ _ c.quoted.ensures (rw c.kind_text.ensures at c.counted.ensures)) c.put.ensures
