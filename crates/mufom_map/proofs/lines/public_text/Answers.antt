use Rattle.mufom_map.proofs.lines.public_text.Goals as goal

pub returns : goal.returns
returns g c = let l = g.met.K.Output in
    l.joins _ _ _ _ _ c.put.ensures (l.joins _ _ _ _ _ c.hex.ensures (l.joins _ _ _ _ _ c.put-2.ensures
    (l.joins _ _ _ _ _ (rw c.as_slice.ensures at c.quoted.ensures) c.in_module_or_plan.ensures)))
