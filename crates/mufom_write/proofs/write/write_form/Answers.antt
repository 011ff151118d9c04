use Rattle.std.proofs.Common.{refl}
use Rattle.mufom_write.proofs.write.write_form.Goals as goal

pub returns-in_err-module_begin : goal.returns-in_err-module_begin
returns-in_err-module_begin g c = let l = g.met.K.Output in l.stops _ _ _ _ _ _ _ c.in_err-module_begin.ensures c.from_residual.ensures.0 refl

pub returns-in_err-offset_records : goal.returns-in_err-offset_records
returns-in_err-offset_records g c = let l = g.met.K.Output in
    l.joins _ _ _ _ _ _ _ c.in_ok-module_begin.ensures (l.stops _ _ _ _ _ _ _
    (rw c.layout_of-layout.ensures.offsets at c.in_err-offset_records.ensures) c.from_residual-in_err-offset_records.ensures.0 refl) refl

pub returns-in_err-all_parts : goal.returns-in_err-all_parts
returns-in_err-all_parts g c = let l = g.met.K.Output in l.joins _ _ _ _ _ _ _ c.in_ok-module_begin.ensures
    (l.joins _ _ _ _ _ _ _ (rw c.layout_of-layout.ensures.offsets at c.in_ok-offset_records.ensures)
    (l.stops _ _ _ _ _ _ _ c.in_err-all_parts.ensures c.from_residual-in_err-all_parts.ensures.0 refl) refl) refl

pub returns : goal.returns
returns g c = let l = g.met.K.Output in l.joins _ _ _ _ _ _ _ c.in_ok-module_begin.ensures
    (l.joins _ _ _ _ _ _ _ (rw c.layout_of-layout.ensures.offsets at c.in_ok-offset_records.ensures)
    (l.joins _ _ _ _ _ _ _ c.in_ok-all_parts.ensures (c.record.ensures) refl) refl) refl
