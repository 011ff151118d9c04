use Rattle.std.proofs.Common.{refl}
use Rattle.mufom_write.proofs.sections.setting.Goals as goal

pub returns-in_err-record : goal.returns-in_err-record
returns-in_err-record g c = let l = g.met.K.Output in l.stops _ _ _ _ _ _ _ c.in_err-record.ensures c.from_residual.ensures.0 refl

pub returns-in_err-number : goal.returns-in_err-number
returns-in_err-number g c = let l = g.met.K.Output in l.joins _ _ _ _ _ _ _ c.in_ok-record.ensures
    (l.stops _ _ _ _ _ _ _ c.in_err-number.ensures c.from_residual-in_err-number.ensures.0 refl) refl

pub returns : goal.returns
returns g c = let l = g.met.K.Output in l.joins _ _ _ _ _ _ _ c.in_ok-record.ensures
    (l.joins _ _ _ _ _ _ _ c.in_ok-number.ensures (c.number-2.ensures) refl) refl
