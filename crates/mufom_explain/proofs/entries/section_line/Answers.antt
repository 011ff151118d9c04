use Rattle.mufom_explain.proofs.entries.section_line.Goals as goal

pub returns : goal.returns
returns g c = let l = g.met.K.Output in
    l.joins _ _ _ _ _ (l.joins _ _ _ _ _ c.described.ensures (l.joins _ _ _ _ _ c.base_text.ensures (rw c.section.ensures at c.place_text.ensures)))
    c.put.ensures
