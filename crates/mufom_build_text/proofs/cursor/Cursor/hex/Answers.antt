use Rattle.std.proofs.Common.{ℕ, List, sym, subst, ◌∙◌, arith}
use Rattle.mufom_build_text.specs.Loosely.{ReadsHex}
use Rattle.mufom_build_text.proofs.Noted.{none_is, some_is}
use Rattle.mufom_build_text.proofs.Names.{made, hex_missing, hex_read}
use Rattle.mufom_build_text.proofs.cursor.Cursor.hex.Goals as goal

pub returns-then-is_empty-clause-reads : goal.returns-then-is_empty-clause-reads
returns-then-is_empty-clause-reads c =
    let none = none_is _ (sym c.is_empty.ensures ∙ c.if-is_empty.true) in
    subst (λ (bytes : List ℕ). ReadsHex bytes c.args.self.now c.bad.new.self) (sym c.new.ensures)
    (hex_missing c.in_ok-bytes.bytes.items c.rest.result.now c.in_ok-bytes.after.now c.rest.ensures c.in_ok-bytes.ensures.takes
    (omega (arith, none, c.in_ok-bytes.bytes.ok.0)) c.bad.ensures)

pub returns-clause-reads : goal.returns-clause-reads
returns-clause-reads c =
    let some = some_is _ (sym c.is_empty.ensures ∙ c.if-is_empty.false) in
    made (λ (bytes : List ℕ). ReadsHex bytes c.args.self.now c.advance_to.new.self) c.from_slice.result _ c.in_ok-bytes.bytes.items
    c.from_slice.ensures c.deref.ensures.value
    (hex_read c.in_ok-bytes.bytes.items c.rest.result.now c.in_ok-bytes.after.now c.rest.ensures c.in_ok-bytes.ensures.front
    c.in_ok-bytes.ensures.takes (omega (arith, some, c.in_ok-bytes.bytes.ok.0)) c.advance_to.ensures.rest c.advance_to.ensures.column
    c.advance_to.ensures.line c.advance_to.ensures.error)
