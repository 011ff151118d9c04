use Rattle.mufom_explain_text.proofs.plan_lines.key_line.Goals as goal

pub returns : goal.returns
returns g c = let l = g.met.K.Output in
    l.joins _ _ _ _ _ (l.joins _ _ _ _ _ c.put.ensures (rw c.as_slice.ensures at c.quoted.ensures)) c.put-2.ensures
