-- A text of which all lines are read.
use Rattle.std.proofs.Common.{◌≡◌, ℕ, false, List, [], Some, Result, Err, refl, sym, ap, subst, ◌∙◌}
use Rattle.mufom_module.specs.declared.module.Parts.{Parts}
use Rattle.mufom_module.specs.declared.module.Defect.{Defect}
use Rattle.mufom_module.specs.Defects.{IsValid, first_defect}
use Rattle.mufom_module.specs.Made.{IsMade}
use Rattle.mufom_text.specs.Words.{Text}
use Rattle.mufom_refusals.specs.declared.build.BuildReason.{BuildReason}
use Rattle.mufom_refusals.specs.declared.build.BuildReason.TheVariants.{BadText}
use Rattle.mufom_build_text.specs.declared.refusal.PieceStop.TheVariants as stops
use Rattle.mufom_build_text.specs.Errors.{wrong_line}
use Rattle.mufom_build_text.specs.Reads.{Place, beginning, PassesBlanks, IsPastBlanks}
use Rattle.mufom_refusals.specs.declared.build.BuildRefusal.{BuildRefusal}
use Rattle.mufom_build.specs.Begun.{Begun}
use Rattle.mufom_build.specs.Lines.{Build}
use Rattle.mufom_build.specs.Order.{State, start, state_after, may_end}
use Rattle.mufom_build.specs.Refusals.{HasDefect, IsRefusedAt}
use Rattle.mufom_build.specs.Rows.{Row, rows_of}
use Rattle.mufom_build.proofs.FewRows.{parts_few, run_few}
use Rattle.mufom_build.proofs.BegunNext.{begun_first, all_right, missing_here, listed_here}

-- the parts of its rows are a module
pub built : (text : Text) (place : Place) (parts m : Parts) → Begun text (rows_of parts) place → place.rest ≡ [] → m ≡ parts → IsValid m → IsMade m
    → Build text m
built text place parts m begun none same valid made = record {
  listed = listed_here text (rows_of parts) place m begun none (ap rows_of same);
  made = made;
  valid = valid;
}

-- they have a defect
pub has_defect : (text : Text) (place : Place) (parts : Parts) (defect : Defect) → Begun text (rows_of parts) place → place.rest ≡ []
    → first_defect parts ≡ Some defect → HasDefect text defect
has_defect text place parts defect begun none first = record {
  right = all_right text (rows_of parts) place begun none;
  parts = parts;
  listed = listed_here text (rows_of parts) place parts begun none refl;
  few = parts_few parts (run_few start (rows_of parts) begun.run);
  first = first;
}

-- ---- the beginning, and where lines are missing

pub first_here : (text : Text) (first place : Place) → first ≡ beginning text
    → PassesBlanks first.rest first.line first.column place.rest place.line place.column → IsPastBlanks place.rest → place.error ≡ first.error
    → Begun text [] place
first_here text first place is blanks past error =
    begun_first text place (subst (λ (p : Place). PassesBlanks p.rest p.line p.column place.rest place.line place.column) is blanks) past
    (error ∙ ap (λ (p : Place). p.error) is)

pub missing_rows : (text : Text) (rows : List Row) (s : State) (place : Place) (line column : ℕ) (reason : BuildReason) → s ≡ state_after start rows
    → Begun text rows place → place.rest ≡ [] → may_end s ≡ false → stops.At (wrong_line place) 1 BadText ≡ stops.At line column reason
    → IsRefusedAt text line column reason
missing_rows text rows s place line column reason is begun none unfinished e =
    let lines : wrong_line place ≡ line = cc in
    let columns : 1 ≡ column = cc in
    let reasons : BadText ≡ reason = cc in
    subst (λ (l : ℕ). IsRefusedAt text l column reason) lines (subst (λ (k : ℕ). IsRefusedAt text (wrong_line place) k reason) columns
    (subst (λ (r : BuildReason). IsRefusedAt text (wrong_line place) 1 r) reasons
    (missing_here text rows place begun none (ap may_end (sym is) ∙ unfinished))))

-- the refusal that is returned
pub refusal_is : {X : Type 0} (refusal other : BuildRefusal) → ◌≡◌ {A = Result X BuildRefusal} (Err refusal) (Err other) → refusal ≡ other
refusal_is {X} refusal other e = cc
