use Rattle.mufom_text.proofs.sections.module_line.Goals as goal

pub returns : goal.returns
returns g c = let l = g.met.K.Output in (l.joins _ _ _ _ _ (l.joins _ _ _ _ _
    (l.joins _ _ _ _ _ (l.joins _ _ _ _ _ (l.joins _ _ _ _ _ (l.joins _ _ _ _ _
    (l.joins _ _ _ _ _ (l.joins _ _ _ _ _ c.put.ensures (rw c.as_slice.ensures at c.quoted.ensures)) c.put-2.ensures)
    (rw c.as_slice-2.ensures at c.quoted-2.ensures)) c.put-3.ensures) c.number.ensures) c.put-4.ensures)
    (rw c.order_letter.ensures at c.put-5.ensures)) c.put-6.ensures)
