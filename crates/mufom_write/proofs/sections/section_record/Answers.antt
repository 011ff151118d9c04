use Rattle.std.proofs.Common.{refl}
use Rattle.mufom_write.proofs.sections.section_record.Goals as goal

pub returns-in_err-numbered : goal.returns-in_err-numbered
returns-in_err-numbered g c = let l = g.met.K.Output in l.stops _ _ _ _ _ _ _ c.in_err-numbered.ensures c.from_residual.ensures.0 refl

pub returns-in_err-letters : goal.returns-in_err-letters
returns-in_err-letters g c = let l = g.met.K.Output in l.joins _ _ _ _ _ _ _ c.in_ok-numbered.ensures
    (l.stops _ _ _ _ _ _ _ c.in_err-letters.ensures c.from_residual-in_err-letters.ensures.0 refl) refl

pub returns-in_err-purpose_letter : goal.returns-in_err-purpose_letter
returns-in_err-purpose_letter g c = let l = g.met.K.Output in
    l.joins _ _ _ _ _ _ _ c.in_ok-numbered.ensures (l.joins _ _ _ _ _ _ _ c.in_ok-letters.ensures
    (l.stops _ _ _ _ _ _ _ c.in_err-purpose_letter.ensures c.from_residual-in_err-purpose_letter.ensures.0 refl) refl) refl

pub returns : goal.returns
returns g c = let l = g.met.K.Output in l.joins _ _ _ _ _ _ _ c.in_ok-numbered.ensures
    (l.joins _ _ _ _ _ _ _ c.in_ok-letters.ensures (l.joins _ _ _ _ _ _ _ c.in_ok-purpose_letter.ensures (c.string.ensures) refl) refl) refl
