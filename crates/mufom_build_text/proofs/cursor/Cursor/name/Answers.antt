use Rattle.std.proofs.Common.{ℕ, List, sym, ◌∙◌}
use Rattle.mufom_build_text.specs.Loosely.{ReadsName}
use Rattle.mufom_build_text.proofs.Names.{made, name_missing, name_read}
use Rattle.mufom_build_text.proofs.cursor.Cursor.name.Goals as goal

pub returns-clause-reads : goal.returns-clause-reads
returns-clause-reads c =
    let (front, is, spelled) = rw c.in-Some.is at c.in_ok-name.ensures.front in
    made (λ (bytes : List ℕ). ReadsName bytes c.args.self.now c.advance_to.new.self) c.from_slice.result _ c.in-Some.name.items
    c.from_slice.ensures c.deref.ensures.value
    (name_read c.in-Some.name.items c.in-Some.after.now (front, sym c.rest.ensures ∙ is, spelled)
    (λ x other rest e here. let (same, left) = rw c.in-Some.is at (c.in_ok-name.ensures.takes x other rest (c.rest.ensures ∙ e) here) in
    (same, left))
    c.advance_to.ensures.rest c.advance_to.ensures.column c.advance_to.ensures.line c.advance_to.ensures.error)

pub returns-in_default-clause-reads : goal.returns-in_default-clause-reads
returns-in_default-clause-reads c = name_missing c.new.result c.bad.ensures
    (λ x front rest e here. rw c.in_default.is at (c.in_ok-name.ensures.takes x front rest (c.rest.ensures ∙ e) here))
