-- A text from which a module is built, or which lists parts with a defect, is not refused.
use Rattle.std.proofs.Common.{List, ◌≡◌, ℕ, Some, None, length, [], sym, ap, subst, ◌∙◌, append-nil}
use Rattle.mufom_text.proofs.FewMarks.{few_marks}
use Rattle.mufom_text.specs.Words.{Text}
use Rattle.mufom_module.specs.declared.module.Parts.{Parts}
use Rattle.mufom_module.specs.declared.module.Defect.{Defect}
use Rattle.mufom_module.specs.Defects.{first_defect}
use Rattle.mufom_refusals.specs.declared.build.BuildReason.{BuildReason}
use Rattle.mufom_build_text.specs.Pieces.{exact}
use Rattle.mufom_build_text.specs.Places.{SpellsLines}
use Rattle.mufom_build.specs.Begun.{AllFit}
use Rattle.mufom_build.specs.Lines.{Line, listing_lines, Build, Shape}
use Rattle.mufom_build.specs.Order.{start}
use Rattle.mufom_build.specs.Refusals.{text_lines, AreRight, IsRefusedAt, HasDefect}
use Rattle.mufom_build.specs.Rows.{rows_of}
use Rattle.mufom_build.proofs.BegunHere.{right_so_far}
use Rattle.mufom_build.proofs.BegunRows.{text_plain}
use Rattle.mufom_build.proofs.Completed.{listing_is, listing_runs}
use Rattle.mufom_build.proofs.OneModule.{one_listing}
use Rattle.mufom_build.proofs.OneRefusal.{right_not_refused}
use Rattle.mufom_build.proofs.PrintedLines.{listing_fits}
use Rattle.mufom_build.proofs.RowTexts.{rows_in_text}
use Rattle.mufom_build.proofs.Shapes.{loose_lines, are_few, build_has_shape}

-- No line of a text is wrong from which a module is built.
pub built_right : (text : Text) (m : Parts) → Build text m → AreRight (text_lines text) (length (text_lines text))
built_right text m built =
    let lines = listing_is m in
    let stated = rows_in_text exact start (rows_of m) text (subst (λ (l : List Line). SpellsLines exact l text) lines built.listed) in
    let fit = subst (λ (l : List Line). AllFit l) lines (listing_fits m built.made built.valid (few_marks m built.valid)) in
    right_so_far (rows_of m) (text_lines text) [] (text_lines text) (sym (append-nil (text_lines text))) (text_plain text)
    (listing_runs m (are_few m built.made)) stated fit

pub built_not_refused : (text : Text) (m : Parts) (line column : ℕ) (reason : BuildReason) → Build text m → IsRefusedAt text line column reason → ⊥
built_not_refused text m line column reason built =
    right_not_refused text line column reason (built_right text m built) (build_has_shape text m built)

pub defect_not_refused : (text : Text) (d : Defect) (line column : ℕ) (reason : BuildReason) → HasDefect text d
    → IsRefusedAt text line column reason → ⊥
defect_not_refused text d line column reason defect =
    right_not_refused text line column reason defect.right (record {
      parts = defect.parts;
      listed = loose_lines (listing_lines defect.parts) text defect.listed;
      few = defect.few;
    })

pub defect_not_built : (text : Text) (m : Parts) (d : Defect) → Build text m → HasDefect text d → ⊥
defect_not_built text m d built listed =
    let same = one_listing text listed.parts m (loose_lines (listing_lines listed.parts) text listed.listed)
    (loose_lines (listing_lines m) text built.listed) in
    let none : None ≡ Some d = sym built.valid ∙ ap first_defect (sym same) ∙ listed.first in
    cc

pub one_defect : (text : Text) (d other : Defect) → HasDefect text d → HasDefect text other → d ≡ other
one_defect text d other p q =
    let same = one_listing text p.parts q.parts (loose_lines (listing_lines p.parts) text p.listed)
    (loose_lines (listing_lines q.parts) text q.listed) in
    let both : Some d ≡ Some other = sym p.first ∙ ap first_defect same ∙ q.first in
    cc
