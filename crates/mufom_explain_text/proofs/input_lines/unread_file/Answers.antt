use Rattle.mufom_explain_text.proofs.input_lines.unread_file.Goals as goal

pub returns : goal.returns
returns g c = let l = g.met.K.Output in
    let named = rw c.file_name.ensures at c.quoted.ensures in let told = rw c.cause_text.ensures at c.put-2.ensures in
    l.joins _ _ _ _ _ (l.joins _ _ _ _ _ c.counted.ensures (l.joins _ _ _ _ _ c.put.ensures (l.joins _ _ _ _ _ named told))) c.put-3.ensures
