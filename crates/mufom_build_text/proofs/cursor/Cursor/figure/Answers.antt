use Rattle.std.proofs.Common.{◌≡◌, ◌<◌, ℕ, Option, refl, sym, ap, subst, ◌∙◌}
use Rattle.mufom_refusals.specs.declared.build.BuildReason.TheVariants.{TooGreat}
use Rattle.mufom_build_text.specs.Errors.{error_at, first_error, limited}
use Rattle.mufom_build_text.proofs.Noted.{limited_small, limited_great}
use Rattle.mufom_build_text.proofs.Loosely.{figure_read}
use Rattle.mufom_build_text.proofs.cursor.Cursor.figure.Goals as goal
use Rattle.mufom_build_text.proofs.cursor.Cursor.figure.Goals.{in_default-via-in-Some+else-number-most, in_default-via-in_default}

pub returns-in-Some-clause-reads : goal.returns-in-Some-clause-reads
returns-in-Some-clause-reads c =
    let error = c.numeral.new.self.error in
    let column = c.args.self.now.column in
    figure_read c.args.most c.in-Some.number c.numeral.result c.ranges.most.fits
    (subst (λ (n : ℕ). 0 < n) c.column-column.ensures.value c.column-column.ensures.positive) c.numeral.ensures.reads refl refl refl
    (sym (ap (λ (o : Option ℕ). limited error column o c.args.most) c.in-Some.is
    ∙ limited_small error column c.in-Some.number c.args.most c.if-number-most.true))
    (λ right. c.in-Some.is)

pub returns-in_default-clause-reads : goal.returns-in_default-clause-reads
returns-in_default-clause-reads c =
    let error = c.numeral.new.self.error in
    let column = c.args.self.now.column in
    let great : limited error column c.numeral.result c.args.most ≡ first_error error (error_at column TooGreat) = elim c.in_default.branch [
      | in_default-via-in-Some+else-number-most w ↦ ap (λ (o : Option ℕ). limited error column o c.args.most) w.in-Some.is
          ∙ limited_great error column w.in-Some.number c.args.most w.if-number-most.false
      | in_default-via-in_default w ↦ ap (λ (o : Option ℕ). limited error column o c.args.most) w.in_default.is
    ] in
    figure_read c.args.most 0 c.numeral.result c.ranges.most.fits
    (subst (λ (n : ℕ). 0 < n) c.column-column.ensures.value c.column-column.ensures.positive) c.numeral.ensures.reads c.note.ensures.rest
    c.note.ensures.line c.note.ensures.column
    (c.note.ensures.first ∙ ap (λ k. first_error error (error_at k TooGreat)) c.column-column.ensures.value ∙ sym great)
    (λ right. absurd (c.note.ensures.wrong right))
