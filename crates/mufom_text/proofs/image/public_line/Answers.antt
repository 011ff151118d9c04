use Rattle.mufom_text.proofs.image.public_line.Goals as goal

pub returns : goal.returns
returns g c = let l = g.met.K.Output in (l.joins _ _ _ _ _ (l.joins _ _ _ _ _
    (l.joins _ _ _ _ _ (l.joins _ _ _ _ _ c.put.ensures c.address.ensures) c.put-2.ensures) (rw c.as_slice.ensures at c.quoted.ensures)) c.put-3.ensures)
