use Rattle.std.proofs.Common.{sym, ◌∙◌}
use Rattle.mufom_expr.specs.Tree.{Tree}
use Rattle.mufom_build_text.specs.Pieces.{value_pieces}
use Rattle.mufom_build_text.specs.Loosely.{ReadsLoosely, NoFigure}
use Rattle.mufom_build_text.proofs.FirstBytes.{no}
use Rattle.mufom_build_text.proofs.ValueReading.{value_missing, value_long, value_short, any_value, never_fails}
use Rattle.mufom_build_text.proofs.cursor.Cursor.value.Goals as goal

pub returns-then-is_bad-clause-reads : goal.returns-then-is_bad-clause-reads
returns-then-is_bad-clause-reads c =
    let whole = c.in_ok-whole.ensures.reads c.args.self.now (c.new-infix.ensures c.args.self.now) in
    any_value (λ (p : Tree). ReadsLoosely value_pieces NoFigure p c.args.self.now c.whole.new.cursor) c.constant.result
    (λ p. value_missing p c.args.self.now c.whole.new.cursor c.whole.new.self whole
    (λ sound. no (sym sound ∙ sym c.is_bad.ensures ∙ c.if-is_bad.true)))

pub returns-then-is_long-clause-reads : goal.returns-then-is_long-clause-reads
returns-then-is_long-clause-reads c =
    let whole = c.in_ok-whole.ensures.reads c.args.self.now (c.new-infix.ensures c.args.self.now) in
    let read = whole.read (sym c.is_bad.ensures ∙ c.if-is_bad.false) in
    any_value (λ (p : Tree). ReadsLoosely value_pieces NoFigure p c.args.self.now c.note.new.self) c.constant-then-is_long.result
    (λ p. value_long p c.args.self.now c.whole.new.cursor c.note.new.self c.whole.new.self c.column-column.result read c.if-is_long.true
    c.column-column.ensures.value c.column-column.ensures.positive c.note.ensures.rest c.note.ensures.line c.note.ensures.column
    c.note.ensures.first)

pub returns-in-Ok-clause-reads : goal.returns-in-Ok-clause-reads
returns-in-Ok-clause-reads c =
    let whole = c.in_ok-whole.ensures.reads c.args.self.now (c.new-infix.ensures c.args.self.now) in
    let read = whole.read (sym c.is_bad.ensures ∙ c.if-is_bad.false) in
    value_short c.in-Ok.value c.args.self.now c.whole.new.cursor c.whole.new.self read c.if-is_long.false c.in-Ok.ensures.tokens

pub returns-clause-reads : goal.returns-clause-reads
returns-clause-reads c =
    let whole = c.in_ok-whole.ensures.reads c.args.self.now (c.new-infix.ensures c.args.self.now) in
    let read = whole.read (sym c.is_bad.ensures ∙ c.if-is_bad.false) in
    absurd (never_fails c.args.self.now c.whole.new.cursor c.whole.new.self read c.if-is_long.false c.in-Err.ensures.only)
