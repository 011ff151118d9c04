use Rattle.std.proofs.Common.{sym, ◌∙◌}
use Rattle.mufom_build_text.proofs.Loosely.{numeral_missing, numeral_read}
use Rattle.mufom_build_text.proofs.cursor.Cursor.numeral.Goals as goal

pub returns-then-is_empty-clause-reads : goal.returns-then-is_empty-clause-reads
returns-then-is_empty-clause-reads c = numeral_missing c.rest-text.result.now c.split_at.result.0.now c.count_digits.result c.rest-text.ensures
    c.split_at.ensures.front c.count_digits.ensures.last (sym c.is_empty.ensures ∙ c.if-is_empty.true) c.bad.ensures

pub returns-clause-reads : goal.returns-clause-reads
returns-clause-reads c = numeral_read c.rest-text.result.now c.split_at.result.0.now c.split_at.result.1.now c.count_digits.result
    c.number_of.result c.rest-text.ensures c.split_at.ensures.front c.split_at.ensures.back c.count_digits.ensures.digits
    c.count_digits.ensures.last (sym c.is_empty.ensures ∙ c.if-is_empty.false) c.number_of.ensures c.advance_to.ensures.rest
    c.advance_to.ensures.column c.advance_to.ensures.line c.advance_to.ensures.error
