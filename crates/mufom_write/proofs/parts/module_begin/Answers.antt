use Rattle.std.proofs.Common.{refl}
use Rattle.mufom_write.proofs.parts.module_begin.Goals as goal

pub returns-in_err-begin_record : goal.returns-in_err-begin_record
returns-in_err-begin_record g c = let l = g.met.K.Output in l.stops _ _ _ _ _ _ _ c.in_err-begin_record.ensures c.from_residual.ensures.0 refl

pub returns : goal.returns
returns g c = let l = g.met.K.Output in l.joins _ _ _ _ _ _ _ c.in_ok-begin_record.ensures (c.descriptor_record.ensures) refl
