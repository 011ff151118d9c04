use Rattle.mufom_text.proofs.image.debug_line.Goals as goal

pub returns : goal.returns
returns g c = let l = g.met.K.Output in
    (l.joins _ _ _ _ _ (l.joins _ _ _ _ _ (l.joins _ _ _ _ _ c.put.ensures c.number.ensures)
    (l.joins _ _ _ _ _ (l.joins _ _ _ _ _ c.put-2.ensures c.address.ensures) c.role_words.ensures)) c.put-3.ensures)
