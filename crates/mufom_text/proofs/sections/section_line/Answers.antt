use Rattle.mufom_text.proofs.sections.section_line.Goals as goal

pub returns : goal.returns
returns g c = let l = g.met.K.Output in (l.joins _ _ _ _ _ (l.joins _ _ _ _ _
    (l.joins _ _ _ _ _ (l.joins _ _ _ _ _ (l.joins _ _ _ _ _ (l.joins _ _ _ _ _
    (l.joins _ _ _ _ _ (l.joins _ _ _ _ _ (l.joins _ _ _ _ _ (l.joins _ _ _ _ _
    (l.joins _ _ _ _ _ (l.joins _ _ _ _ _ c.put.ensures c.number.ensures) c.put-2.ensures) (rw c.as_slice.ensures at c.quoted.ensures))
    c.put-3.ensures) (rw c.type_letters.ensures at c.put-4.ensures)) (rw c.purpose_letter.ensures at c.put-5.ensures)) c.put-6.ensures)
    c.number-2.ensures) c.put-7.ensures) c.number-3.ensures) c.base.ensures) c.put-8.ensures)
