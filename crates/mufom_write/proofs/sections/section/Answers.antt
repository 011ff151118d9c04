use Rattle.std.proofs.Common.{refl}
use Rattle.mufom_write.proofs.sections.section.Goals as goal

pub returns-in_err-section_record : goal.returns-in_err-section_record
returns-in_err-section_record g c = let l = g.met.K.Output in l.stops _ _ _ _ _ _ _ c.in_err-section_record.ensures c.from_residual.ensures.0 refl

pub returns-in_err-alignment_record : goal.returns-in_err-alignment_record
returns-in_err-alignment_record g c = let l = g.met.K.Output in
    l.joins _ _ _ _ _ _ _ c.in_ok-section_record.ensures (l.stops _ _ _ _ _ _ _ c.in_err-alignment_record.ensures
    c.from_residual-in_err-alignment_record.ensures.0 refl) refl

pub returns-in_err-size_record : goal.returns-in_err-size_record
returns-in_err-size_record g c = let l = g.met.K.Output in l.joins _ _ _ _ _ _ _ c.in_ok-section_record.ensures
    (l.joins _ _ _ _ _ _ _ c.in_ok-alignment_record.ensures (l.stops _ _ _ _ _ _ _ c.in_err-size_record.ensures
    c.from_residual-in_err-size_record.ensures.0 refl) refl) refl

pub returns : goal.returns
returns g c = let l = g.met.K.Output in l.joins _ _ _ _ _ _ _ c.in_ok-section_record.ensures
    (l.joins _ _ _ _ _ _ _ c.in_ok-alignment_record.ensures (l.joins _ _ _ _ _ _ _ c.in_ok-size_record.ensures (c.base_record.ensures) refl) refl) refl
