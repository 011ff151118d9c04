use Rattle.mufom_map.proofs.lines.section_line.Goals as goal

pub returns : goal.returns
returns g c = let l = g.met.K.Output in
    l.joins _ _ _ _ _ (l.joins _ _ _ _ _ (rw c.kind_word.ensures at c.put.ensures) (l.joins _ _ _ _ _ c.placed_text.ensures
    (l.joins _ _ _ _ _ c.in_module.ensures c.in_region.ensures))) c.put-2.ensures
