use Rattle.std.proofs.Common.{refl}
use Rattle.mufom_write.proofs.names.public.Goals as goal

pub returns-in_err-name_record : goal.returns-in_err-name_record
returns-in_err-name_record g c = let l = g.met.K.Output in l.stops _ _ _ _ _ _ _ c.in_err-name_record.ensures c.from_residual.ensures.0 refl

pub returns-in_err-notes : goal.returns-in_err-notes
returns-in_err-notes g c = let l = g.met.K.Output in l.joins _ _ _ _ _ _ _ c.in_ok-name_record.ensures
    (l.stops _ _ _ _ _ _ _ (rw c.as_slice.ensures at c.in_err-notes.ensures) c.from_residual-in_err-notes.ensures.0 refl) refl

pub returns : goal.returns
returns g c = let l = g.met.K.Output in l.joins _ _ _ _ _ _ _ c.in_ok-name_record.ensures
    (l.joins _ _ _ _ _ _ _ (rw c.as_slice.ensures at c.in_ok-notes.ensures) (c.value_record.ensures) refl) refl
