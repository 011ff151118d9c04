use Rattle.mufom_text.proofs.names.weak_words.Goals as goal

pub returns : goal.returns
returns g c = let l = g.met.K.Output in (l.joins _ _ _ _ _ (l.joins _ _ _ _ _ (l.joins _ _ _ _ _ c.put.ensures c.number.ensures) c.put-2.ensures)
    c.number-2.ensures)
