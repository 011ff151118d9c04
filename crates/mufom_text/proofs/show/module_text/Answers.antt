use Rattle.std.proofs.Common.{ap, length, arith}
use Rattle.mufom_debug.specs.Marks.{marks_of}
use Rattle.mufom_text.proofs.FewMarks.{few_marks}
use Rattle.mufom_text.proofs.show.module_text.Goals as goal

pub debug_items-requires-clause-deep : goal.debug_items-requires-clause-deep
debug_items-requires-clause-deep g c =
    let few = few_marks c.args.parts.now c.requires in
    let all = ap (λ items. length (marks_of items)) c.as_slice-6.ensures in
    omega (arith, few, all)

pub debug_items-requires-clause-few : goal.debug_items-requires-clause-few
debug_items-requires-clause-few g c =
    let few = few_marks c.args.parts.now c.requires in
    let all = ap (λ items. length (marks_of items)) c.as_slice-6.ensures in
    omega (arith, few, all)

pub returns : goal.returns
returns g c = let l = g.met.K.Output in (l.joins _ _ _ _ _ (l.joins _ _ _ _ _
    (l.joins _ _ _ _ _ (l.joins _ _ _ _ _ (l.joins _ _ _ _ _ (l.joins _ _ _ _ _
    (l.joins _ _ _ _ _ (l.joins _ _ _ _ _ c.module_line.ensures (rw c.as_slice.ensures at c.raw_line.ensures))
    (rw c.as_slice-2.ensures at c.raw_line-2.ensures)) (rw c.as_slice-3.ensures at c.section_lines.ensures))
    (rw c.as_slice-4.ensures at c.publics.ensures)) (rw c.as_slice-5.ensures at c.references.ensures))
    (rw c.as_slice-6.ensures at c.debug_items.ensures.takes)) (rw c.as_slice-7.ensures at c.loads.ensures)) c.start.ensures)
