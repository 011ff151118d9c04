use Rattle.std.proofs.Common.{refl}
use Rattle.mufom_write.proofs.debug.block_begin.Goals as goal

pub returns-in_err-numbered : goal.returns-in_err-numbered
returns-in_err-numbered g c = λ n. let l = g.met.K.Output in
    l.stops _ _ _ _ _ _ _ (rw c.kind.ensures at c.in_err-numbered.ensures) c.from_residual.ensures.0 refl

pub returns-in_err-number : goal.returns-in_err-number
returns-in_err-number g c = λ n. let l = g.met.K.Output in l.joins _ _ _ _ _ _ _ (rw c.kind.ensures at c.in_ok-numbered.ensures)
    (l.stops _ _ _ _ _ _ _ c.in_err-number.ensures c.from_residual-in_err-number.ensures.0 refl) refl

pub returns-in_err-string : goal.returns-in_err-string
returns-in_err-string g c = λ n. let l = g.met.K.Output in l.joins _ _ _ _ _ _ _ (rw c.kind.ensures at c.in_ok-numbered.ensures)
    (l.joins _ _ _ _ _ _ _ c.in_ok-number.ensures (l.stops _ _ _ _ _ _ _ c.in_err-string.ensures c.from_residual-in_err-string.ensures.0 refl) refl) refl

pub returns : goal.returns
returns g c = λ n. let l = g.met.K.Output in l.joins _ _ _ _ _ _ _ (rw c.kind.ensures at c.in_ok-numbered.ensures)
    (l.joins _ _ _ _ _ _ _ c.in_ok-number.ensures (l.joins _ _ _ _ _ _ _ c.in_ok-string.ensures (c.head_fields.ensures) refl) refl) refl
