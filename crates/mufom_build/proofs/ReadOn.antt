-- One line more is read of a text of which a listing is begun.
use Rattle.std.proofs.Common.{◌≡◌, ℕ, suc, ◌+◌, ◌<◌, Bool, true, false, List, [], ◌∷◌, ◌++◌, length, refl, sym, ap, subst, ◌∙◌, inl, inr, ◌⊎◌, arith}
use Rattle.std.proofs.Common.{length-append, Result, Err}
use Rattle.mufom_text.specs.Words.{Text}
use Rattle.mufom_refusals.specs.declared.build.BuildReason.{BuildReason}
use Rattle.mufom_build_text.specs.declared.refusal.PieceStop.{PieceStop}
use Rattle.mufom_build_text.specs.declared.refusal.PieceStop.TheVariants as stops
use Rattle.mufom_build_text.specs.Reads.{Place, IsRight, LeavesLine}
use Rattle.mufom_build_text.proofs.Loosely.{right_is_sound}
use Rattle.mufom_build.specs.declared.row.Row.{Row as ReadRow}
use Rattle.mufom_build.specs.Begun.{IsBeforeLine, IsAtEnd, Begun, IsRowNamed}
use Rattle.mufom_build.specs.Order.{State, start, state_after, may_come, row_pieces}
use Rattle.mufom_build.specs.ReadRows.{ReadsRow}
use Rattle.mufom_build.specs.Refusals.{IsRefusedAt}
use Rattle.mufom_build.specs.Rows.{Row}
use Rattle.mufom_build.specs.Shown.{shown_kind}
use Rattle.mufom_build.proofs.BegunNext.{next_here}
use Rattle.mufom_build.proofs.Faults.{passed}
use Rattle.mufom_build.proofs.RowLines.{row_dark}
use Rattle.mufom_build.proofs.WrongHere.{wrong_line_here}

-- where a text has not ended, the place is before a line
before_of : (text : Text) (rows : List Row) (place : Place) → (begun : Begun text rows place) → (place.rest ≡ [] → ⊥)
    → IsBeforeLine text begun.texts place
before_of text rows place begun some = go begun.here
  where
    go : IsBeforeLine text begun.texts place ⊎ IsAtEnd text begun.texts place → IsBeforeLine text begun.texts place
    go (inl before) = before
    go (inr end) = absurd (some end.none)

-- behind one line more
pub read_on : (text : Text) (rows : List Row) (s : State) (place after last : Place) (result : ReadRow) → s ≡ state_after start rows
    → (reads : ReadsRow s result place after) → Begun text rows place → (place.rest ≡ [] → ⊥) → may_come s (shown_kind result) ≡ true → IsRight after
    → LeavesLine after last → Begun text (rows ++ reads.row ∷ []) last
read_on text rows s place after last result e reads begun some may right leaves =
    subst (λ (t : State). (x : ReadsRow t result place after) → may_come t (shown_kind result) ≡ true → Begun text (rows ++ x.row ∷ []) last) (sym e)
    (λ x m. next_here text rows place after last result begun (before_of text rows place begun some) x m right leaves) reads may

-- what is named of the line is its refusal
pub refused_on : (text : Text) (rows : List Row) (s : State) (place after : Place) (result : ReadRow) (line column : ℕ) (reason : BuildReason)
    → s ≡ state_after start rows → ReadsRow s result place after → Begun text rows place → (place.rest ≡ [] → ⊥)
    → IsRowNamed (may_come s (shown_kind result)) after line column reason → IsRefusedAt text line column reason
refused_on text rows s place after result line column reason e reads begun some named =
    subst (λ (t : State). ReadsRow t result place after → IsRowNamed (may_come t (shown_kind result)) after line column reason
    → IsRefusedAt text line column reason) (sym e) (λ x n. wrong_line_here text rows place after n.noted result line column reason
    (record { begun = begun; before = before_of text rows place begun some; reads = x; named = n.row }) n.named) reads named

-- a line that is read has some bytes
pub row_shorter : (s : State) (place after : Place) (result : ReadRow) → ReadsRow s result place after → IsRight after
    → length after.rest < length place.rest
row_shorter s place after result reads right =
    let p = passed (row_pieces s reads.row) place after (reads.passes (right_is_sound after right)) in
    let (first, others, is, dark) = row_dark s reads.row p.front p.spelled in
    let long : length p.front ≡ suc (length others) = ap length is in
    let all : length place.rest ≡ length p.front + length after.rest = ap length p.is ∙ length-append p.front after.rest in
    omega (arith, long, all)

-- ---- what is handed on

pub stop_is : {X : Type 0} (stop inner : PieceStop) (line column : ℕ) (reason : BuildReason) → stop ≡ inner
    → ◌≡◌ {A = Result X PieceStop} (Err stop) (Err (stops.At line column reason)) → inner ≡ stops.At line column reason
stop_is {X} stop inner line column reason same e = let is : stop ≡ stops.At line column reason = cc in sym same ∙ is

-- want of memory is at no place
pub memory_is_no_place : {X : Type 0} (stop : PieceStop) (line column : ℕ) (reason : BuildReason) → stop ≡ stops.NoMemory
    → ◌≡◌ {A = Result X PieceStop} (Err stop) (Err (stops.At line column reason)) → ⊥
memory_is_no_place {X} stop line column reason same e =
    let both : stops.NoMemory ≡ stops.At line column reason = (let is : stop ≡ stops.At line column reason = cc in sym same ∙ is) in cc
