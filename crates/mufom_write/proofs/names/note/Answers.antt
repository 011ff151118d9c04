use Rattle.std.proofs.Common.{refl}
use Rattle.mufom_write.proofs.names.note.Goals as goal

pub returns-in_err-numbered : goal.returns-in_err-numbered
returns-in_err-numbered g c = let l = g.met.K.Output in l.stops _ _ _ _ _ _ _ c.in_err-numbered.ensures c.from_residual.ensures.0 refl

pub returns-in_err-number : goal.returns-in_err-number
returns-in_err-number g c = let l = g.met.K.Output in l.joins _ _ _ _ _ _ _ c.in_ok-numbered.ensures
    (l.stops _ _ _ _ _ _ _ c.in_err-number.ensures c.from_residual-in_err-number.ensures.0 refl) refl

pub returns-in_err-number-2 : goal.returns-in_err-number-2
returns-in_err-number-2 g c = let l = g.met.K.Output in l.joins _ _ _ _ _ _ _ c.in_ok-numbered.ensures
    (l.joins _ _ _ _ _ _ _ c.in_ok-number.ensures (l.stops _ _ _ _ _ _ _ c.in_err-number-2.ensures c.from_residual-in_err-number-2.ensures.0 refl) refl) refl

pub returns : goal.returns
returns g c = let l = g.met.K.Output in l.joins _ _ _ _ _ _ _ c.in_ok-numbered.ensures
    (l.joins _ _ _ _ _ _ _ c.in_ok-number.ensures (l.joins _ _ _ _ _ _ _ c.in_ok-number-2.ensures ((rw c.as_slice.ensures.value at c.numbers.ensures))
    refl) refl) refl
