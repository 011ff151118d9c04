use Rattle.std.proofs.Common.{refl}
use Rattle.mufom_write.proofs.names.weak_record.Goals as goal

pub returns-in_err-numbered : goal.returns-in_err-numbered
returns-in_err-numbered g c = let l = g.met.K.Output in l.stops _ _ _ _ _ _ _ c.in_err-numbered.ensures c.from_residual.ensures.0 refl

pub returns-in_err-number : goal.returns-in_err-number
returns-in_err-number g c = let l = g.met.K.Output in l.joins _ _ _ _ _ _ _ c.in_ok-numbered.ensures
    (l.stops _ _ _ _ _ _ _ c.in_err-number.ensures c.from_residual-in_err-number.ensures.0 refl) refl

pub returns : goal.returns
returns g c = let l = g.met.K.Output in l.joins _ _ _ _ _ _ _ c.in_ok-numbered.ensures
    (l.joins _ _ _ _ _ _ _ c.in_ok-number.ensures (c.default_number.ensures) refl) refl
