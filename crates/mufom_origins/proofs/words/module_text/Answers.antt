use Rattle.mufom_origins.proofs.words.module_text.Goals as goal

pub returns : goal.returns
returns g c = let l = g.met.K.Output in
    l.joins _ _ _ _ _ c.counted.ensures (l.joins _ _ _ _ _ c.put.ensures
    (l.joins _ _ _ _ _ (rw c.as_slice.ensures at c.quoted.ensures) c.file_text.ensures))
