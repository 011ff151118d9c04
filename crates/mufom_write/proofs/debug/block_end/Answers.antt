use Rattle.std.proofs.Common.{refl}
use Rattle.mufom_write.proofs.debug.block_end.Goals as goal

pub returns-in_err-record : goal.returns-in_err-record
returns-in_err-record g c = λ n. let l = g.met.K.Output in l.stops _ _ _ _ _ _ _ c.in_err-record.ensures c.from_residual.ensures.0 refl

pub returns : goal.returns
returns g c = λ n. let l = g.met.K.Output in l.joins _ _ _ _ _ _ _ c.in_ok-record.ensures (c.end_expression.ensures) refl
