use Rattle.std.proofs.Common.{refl}
use Rattle.mufom_write.proofs.loads.field_end.Goals as goal

pub returns-in_err-prefixed : goal.returns-in_err-prefixed
returns-in_err-prefixed g c = let l = g.met.K.Output in l.stops _ _ _ _ _ _ _ c.in_err-prefixed.ensures c.from_residual.ensures.0 refl

pub returns : goal.returns
returns g c = let l = g.met.K.Output in l.joins _ _ _ _ _ _ _ c.in_ok-prefixed.ensures ((rw c.closing.ensures at c.put.ensures)) refl
