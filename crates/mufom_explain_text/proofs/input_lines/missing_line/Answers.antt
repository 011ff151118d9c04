use Rattle.mufom_explain_text.proofs.input_lines.missing_line.Goals as goal

pub returns : goal.returns
returns g c = let l = g.met.K.Output in
    l.joins _ _ _ _ _ (l.joins _ _ _ _ _ c.put.ensures (rw (c.as_bytes.ensures.value, c.spelling.ensures) at c.put-2.ensures)) c.put-3.ensures
