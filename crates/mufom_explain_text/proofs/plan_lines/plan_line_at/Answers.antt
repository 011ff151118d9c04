use Rattle.mufom_explain_text.proofs.plan_lines.plan_line_at.Goals as goal

pub returns : goal.returns
returns g c = let l = g.met.K.Output in
    let named = rw (c.as_bytes.ensures.value, c.as_str.ensures) at c.quoted.ensures in
    l.joins _ _ _ _ _ (l.joins _ _ _ _ _ c.put.ensures (l.joins _ _ _ _ _ named c.counted.ensures)) c.put-2.ensures
