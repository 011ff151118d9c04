use Rattle.std.proofs.Common.{ℕ, ◌<◌, ap, subst, ◌∙◌}
use Rattle.mufom_refusals.specs.declared.build.BuildReason.TheVariants.{Position}
use Rattle.mufom_build_text.specs.Pieces.{MOST_POSITION}
use Rattle.mufom_build_text.specs.Errors.{judged}
use Rattle.mufom_build_text.proofs.Loosely.{position_read}
use Rattle.mufom_build_text.proofs.cursor.Cursor.position.Goals as goal

pub returns-clause-reads : goal.returns-clause-reads
returns-clause-reads c = position_read c.args.count c.numeral-stated.result
    (subst (λ (n : ℕ). 0 < n) c.column-column.ensures.value c.column-column.ensures.positive) c.numeral-stated.ensures.reads c.judge.ensures.rest
    c.judge.ensures.line c.judge.ensures.column (c.judge.ensures.noted
    ∙ ap (λ k. judged c.numeral-stated.new.self.error k c.numeral-stated.result MOST_POSITION c.args.count Position) c.column-column.ensures.value)
