use Rattle.mufom_explain_text.proofs.input_lines.word_line.Goals as goal

pub returns : goal.returns
returns g c = let l = g.met.K.Output in
    l.joins _ _ _ _ _ (l.joins _ _ _ _ _ c.counted.ensures (l.joins _ _ _ _ _ c.put.ensures (rw c.word_at.ensures at c.quoted.ensures))) c.put-2.ensures
