use Rattle.std.proofs.Common.{refl}
use Rattle.mufom_write.proofs.parts.offset_record.Goals as goal

pub returns-in_err-numbered : goal.returns-in_err-numbered
returns-in_err-numbered g c = let l = g.met.K.Output in l.stops _ _ _ _ _ _ _ c.in_err-numbered.ensures c.from_residual.ensures.0 refl

pub returns-in_err-put : goal.returns-in_err-put
returns-in_err-put g c = let l = g.met.K.Output in l.joins _ _ _ _ _ _ _ c.in_ok-numbered.ensures
    (l.stops _ _ _ _ _ _ _ c.in_err-put.ensures c.from_residual-in_err-put.ensures.0 refl) refl

pub returns : goal.returns
returns g c = let l = g.met.K.Output in l.joins _ _ _ _ _ _ _ c.in_ok-numbered.ensures
    (l.joins _ _ _ _ _ _ _ c.in_ok-put.ensures ((rw c.to_be_bytes.ensures at c.put-2.ensures)) refl) refl
