-- The refusal of the line at a place up to which a listing is begun.
use Rattle.std.proofs.Common.{◌≡◌, ℕ, suc, ◌+◌, ◌<◌, ◌≤◌, Bool, true, false, List, [], ◌∷◌, ◌++◌, length, take, Some, None, refl, sym, ap, subst}
use Rattle.std.proofs.Common.{◌∙◌, inl, inr, ◌⊎◌, append_assoc, append-nil, arith, length-append}
use Rattle.std.specs.List.{AllByRecursion}
use Rattle.mufom_text.specs.Words.{Text}
use Rattle.mufom_build_text.specs.declared.cursor.LineError.{LineError}
use Rattle.mufom_refusals.specs.declared.build.BuildReason.{BuildReason}
use Rattle.mufom_refusals.specs.declared.build.BuildReason.TheVariants.{BadText}
use Rattle.mufom_build_text.specs.Pieces.{loose, exact, Spells, AreSpaces}
use Rattle.mufom_build_text.specs.Errors.{error_at, is_bad, IsSound, Fails, IsWrongEnd, IsNamed}
use Rattle.mufom_build_text.specs.Loosely.{Passes}
use Rattle.mufom_build_text.specs.Reads.{Place, IsLineEnd, IsSpaceFront}
use Rattle.mufom_build_text.proofs.FirstBytes.{one_run}
use Rattle.mufom_build_text.proofs.Loosely.{failed_bad}
use Rattle.mufom_build_text.proofs.Spelling.{spells-append, spells-one}
use Rattle.mufom_build.specs.declared.row.Row.{Row as ReadRow}
use Rattle.mufom_build.specs.Lines.{Line}
use Rattle.mufom_build.specs.ReadRows.{ReadsRow}
use Rattle.mufom_build.specs.Refusals.{text_lines, AreBegun, HasError, HasErrorAt, AreRight, IsWrongAt, IsRefusedAt}
use Rattle.mufom_build.specs.Rows.{Row}
use Rattle.mufom_build.specs.Shown.{shown_kind}
use Rattle.mufom_build.specs.Order.{State, start, state_after, kind_of, may_come, row_pieces, lines_from, AreInOrder}
use Rattle.mufom_build.specs.Begun.{SpellsLine, AreRows, IsBeforeLine, IsAtEnd, Begun, IsNamedRow}
use Rattle.mufom_build.proofs.TextLines.{NoFeed, all_joined, spaces_plain, end_avoids_plain}
use Rattle.mufom_build.proofs.Certain.{certain, IsTail, same_back}
use Rattle.mufom_build.proofs.RowLines.{row_plain}
use Rattle.mufom_build.proofs.CertainLines.{row_certain}
use Rattle.mufom_build.proofs.RowTexts.{run_joined, lines_joined, rows_joined, rows_loosely, body_avoids_space, one_line, one_rows}
use Rattle.mufom_build.proofs.Faults.{IsPassed, passed, IsFault, fault_of, fault_noted}
use Rattle.mufom_build.proofs.BegunRows.{last_same, text_plain, rows_begun, IsErrorAt, error_of_row}
use Rattle.mufom_build.proofs.Rightly.{back_tail}
use Rattle.mufom_build.proofs.BegunHere.{IsHere, line_at, with_line, right_so_far, same_lead, here_avoids, error_avoids, IsReadHere, wrong_line_is, bad_here}

-- ---- the first error of a line

-- what the line at a place is, where all of it is passed over
record IsWhole (text : Text) (rows : List Row) (place after noted : Place) (result : ReadRow) (x : IsReadHere text rows place after noted result)
    (h : IsHere text x.begun.texts place x.before) (spaces : Text) : Type 0 where
  pass : IsPassed (row_pieces (state_after start rows) x.reads.row) place after
  here_is : h.here ≡ pass.front ++ spaces

whole_line : (text : Text) (rows : List Row) (place after noted : Place) (result : ReadRow) → (x : IsReadHere text rows place after noted result)
    → (h : IsHere text x.begun.texts place x.before) → IsSound after → (spaces end : Text) → after.rest ≡ spaces ++ end → AreSpaces spaces
    → IsLineEnd end → IsWhole text rows place after noted result x h spaces
whole_line text rows place after noted result x h sound spaces end is are line_end =
    let s = state_after start rows in
    let p = passed (row_pieces s x.reads.row) place after (x.reads.passes sound) in
    let all : h.here ++ h.end ≡ (p.front ++ spaces) ++ end =
    sym h.is ∙ p.is ∙ ap (λ l. p.front ++ l) is ∙ sym (append_assoc p.front spaces end) in
    let inside = all_joined NoFeed p.front spaces (row_plain s x.reads.row p.front p.spelled) (spaces_plain spaces are) in
    record {
      pass = p;
      here_is = (one_run NoFeed h.here (p.front ++ spaces) h.end end h.plain inside all (end_avoids_plain h.end h.line_end)
          (end_avoids_plain end line_end)).0;
    }

-- the line of the row that is read
read_line : (text : Text) (rows : List Row) (place after noted : Place) (result : ReadRow) → (x : IsReadHere text rows place after noted result)
    → (h : IsHere text x.begun.texts place x.before) → (spaces : Text) → AreSpaces spaces → IsWhole text rows place after noted result x h spaces
    → SpellsLine loose (row_pieces (state_after start rows) x.reads.row) (x.before.lead ++ h.here)
read_line text rows place after noted result x h spaces are w =
    (x.before.lead, w.pass.front, spaces, ap (λ l. x.before.lead ++ l) w.here_is, x.before.spaces, w.pass.spelled, are)

-- an error that is noted is one of the line
error_here : (text : Text) (rows : List Row) (place after noted : Place) (result : ReadRow) → (x : IsReadHere text rows place after noted result)
    → (h : IsHere text x.begun.texts place x.before) → (e : LineError) → after.error ≡ Some e → IsSound after → (spaces end : Text)
    → after.rest ≡ spaces ++ end → AreSpaces spaces → IsLineEnd end
    → HasError (x.before.lead ++ h.here) (row_pieces (state_after start rows) x.reads.row) e.column e.reason
error_here text rows place after noted result x h e error sound spaces end is are line_end =
    let w = whole_line text rows place after noted result x h sound spaces end is are line_end in
    go w (fault_of (row_pieces (state_after start rows) x.reads.row) place after e (x.reads.passes sound) error)
  where
    go : IsWhole text rows place after noted result x h spaces
        → (place.error ≡ Some e) ⊎ IsFault (row_pieces (state_after start rows) x.reads.row) place after e
        → HasError (x.before.lead ++ h.here) (row_pieces (state_after start rows) x.reads.row) e.column e.reason
    go w (inl was) = absurd (let k : None ≡ Some e = sym x.begun.right ∙ was in cc)
    go w (inr f) =
        let front_is : w.pass.front ++ after.rest ≡ (f.front ++ (f.bytes ++ f.back)) ++ after.rest =
        sym w.pass.is ∙ f.is ∙ ap (λ l. f.front ++ l) (sym (append_assoc f.bytes f.back after.rest))
        ∙ sym (append_assoc f.front (f.bytes ++ f.back) after.rest) in
        let same : w.pass.front ≡ f.front ++ (f.bytes ++ f.back) = same_back' w.pass.front (f.front ++ (f.bytes ++ f.back)) after.rest front_is in
        record {
          earlier = f.earlier;
          piece = f.piece;
          later = f.later;
          made_of = f.made_of;
          before = x.before.lead;
          front = f.front;
          bytes = f.bytes;
          back = f.back;
          after = spaces;
          is = ap (λ l. x.before.lead ++ l) (w.here_is ∙ ap (λ l. l ++ spaces) same ∙ append_assoc f.front (f.bytes ++ f.back) spaces
              ∙ ap (λ l. f.front ++ l) (append_assoc f.bytes f.back spaces));
          leading = x.before.spaces;
          spells_front = f.spells_front;
          spells_piece = f.spells_piece;
          spells_back = f.spells_back;
          trailing = are;
          error = f.error;
          place = let sum : e.column ≡ 1 + length x.before.lead + length f.front = omega (arith, f.place, x.before.column_is) in sum;
        }
      where
        same_back' : (s t u : Text) → s ++ u ≡ t ++ u → s ≡ t
        same_back' s t u e = same_back s t u u e refl

-- The rows so far and the one that is read, and the line of that.
one_more : (text : Text) (rows : List Row) (place after noted : Place) (result : ReadRow) → (x : IsReadHere text rows place after noted result)
    → (h : IsHere text x.begun.texts place x.before) → may_come (state_after start rows) (shown_kind result) ≡ true → IsSound after
    → SpellsLine loose (row_pieces (state_after start rows) x.reads.row) (x.before.lead ++ h.here)
    → AreBegun (x.begun.texts ++ (x.before.lead ++ h.here) ∷ []) (lines_from start rows ++ row_pieces (state_after start rows) x.reads.row ∷ [])
one_more text rows place after noted result x h may sound spelled =
    let s = state_after start rows in
    let row = x.reads.row in
    let texts = x.begun.texts in
    let here = x.before.lead ++ h.here in
    let run = run_joined start rows (row ∷ []) x.begun.run (ap (λ k. may_come s k) (sym (x.reads.kind sound)) ∙ may, x.reads.few sound, tt) in
    let stated = rows_joined loose start rows (row ∷ []) texts (here ∷ []) (rows_loosely exact start rows texts x.begun.stated)
    (inr (row, [], refl, spelled, refl)) in
    subst (λ (l : List Line). AreBegun (texts ++ here ∷ []) l) (lines_joined start rows (row ∷ [])) (rows_begun (texts ++ here ∷ [])
    (rows ++ row ∷ []) run stated)

-- an error of the line at this position is noted, or one before it
least_here : (text : Text) (rows : List Row) (place after noted : Place) (result : ReadRow) → (x : IsReadHere text rows place after noted result)
    → (h : IsHere text x.begun.texts place x.before) → (e : LineError) → after.error ≡ Some e → IsSound after → (spaces end : Text)
    → after.rest ≡ spaces ++ end → AreSpaces spaces → IsLineEnd end → (other : ℕ) (kind : BuildReason)
    → HasErrorAt (text_lines text) (length x.begun.texts) other kind → e.column ≤ other
least_here text rows place after noted result x h e error sound spaces end is are line_end other kind wrong =
    let s = state_after start rows in
    let texts = x.begun.texts in
    let here = x.before.lead ++ h.here in
    let row = x.reads.row in
    let w = whole_line text rows place after noted result x h sound spaces end is are line_end in
    let q = error_of_row (text_lines text) (length texts) other kind (text_plain text) wrong in
    let (same_texts, same_text) = last_same q.earlier texts q.text here (sym q.begin ∙ with_line texts here h.more (text_lines text) h.lines) in
    let stated = subst (λ (l : List Text). AreRows loose start q.rows l) same_texts q.stated in
    let same_rows = one_rows start q.rows rows texts stated (rows_loosely exact start rows texts x.begun.stated) in
    let spelled = subst (λ (l : List Row). SpellsLine loose (row_pieces (state_after start l) q.row) here) same_rows
    (subst (λ (t : Text). SpellsLine loose (row_pieces (state_after start q.rows) q.row) t) same_text q.spelled) in
    let same_row = one_line s q.row row here spelled (read_line text rows place after noted result x h spaces are w) in
    let error_there = subst (λ (l : List Row). HasError here (row_pieces (state_after start l) q.row) other kind) same_rows
    (subst (λ (t : Text). HasError t (row_pieces (state_after start q.rows) q.row) other kind) same_text q.wrong) in
    go w (subst (λ (r : Row). HasError here (row_pieces s r) other kind) same_row error_there)
  where
    go : IsWhole text rows place after noted result x h spaces
        → HasError (x.before.lead ++ h.here) (row_pieces (state_after start rows) x.reads.row) other kind → e.column ≤ other
    go w k =
        let s = state_after start rows in
        let row = x.reads.row in
        let inside : h.here ≡ k.front ++ (k.bytes ++ (k.back ++ k.after)) = same_lead x.before.lead h.here k.before
        (k.front ++ (k.bytes ++ (k.back ++ k.after))) x.before.spaces k.leading k.is
        (here_avoids place h.here h.end h.is x.begun.past) (error_avoids s row (x.before.lead ++ h.here) other kind k) in
        let lead_is : length (x.before.lead ++ h.here) ≡ length (k.before ++ (k.front ++ (k.bytes ++ (k.back ++ k.after)))) = ap length k.is in
        let left = length-append x.before.lead h.here in
        let right = length-append k.before (k.front ++ (k.bytes ++ (k.back ++ k.after))) in
        let rests : length h.here ≡ length (k.front ++ (k.bytes ++ (k.back ++ k.after))) = ap length inside in
        let all : place.rest ≡ k.front ++ (k.bytes ++ ((k.back ++ k.after) ++ h.end)) =
        h.is ∙ ap (λ l. l ++ h.end) inside ∙ append_assoc k.front (k.bytes ++ (k.back ++ k.after)) h.end
        ∙ ap (λ l. k.front ++ l) (append_assoc k.bytes (k.back ++ k.after) h.end) in
        let behind : IsTail k.later ((k.back ++ k.after) ++ h.end) = record {
          front = k.back;
          spaces = k.after;
          end = h.end;
          is = append_assoc k.back k.after h.end;
          spelled = k.spells_back;
          are = k.trailing;
          line_end = h.line_end;
        } in
        let nothing : IsTail [] after.rest = record {
          front = [];
          spaces = spaces;
          end = end;
          is = is;
          spelled = refl;
          are = are;
          line_end = line_end;
        } in
        let (f, noted_is, small) = fault_noted k.earlier k.piece k.later place after k.front k.bytes ((k.back ++ k.after) ++ h.end) kind
        (subst (λ (l : Line). certain l ≡ true) k.made_of (row_certain s row))
        (subst (λ (l : Line). Passes l place after) k.made_of (x.reads.passes sound)) all k.spells_front k.spells_piece behind nothing k.error in
        let same : f ≡ e = (let both : Some f ≡ Some e = sym noted_is ∙ error in cc) in
        let column : f.column ≡ e.column = ap (λ (z : LineError). z.column) same in
        omega (arith, small, column, k.place, x.before.column_is, lead_is, left, right, rests)

-- ---- the refusal

refused_by : (text : Text) (rows : List Row) (place after noted end : Place) (result : ReadRow) (line column : ℕ) (reason : BuildReason)
    → (x : IsReadHere text rows place after noted result) → IsSpaceFront noted.rest end.rest → ((more : Text) → end.rest ≡ 32 ∷ more → ⊥)
    → end.line ≡ noted.line → end.column + length end.rest ≡ noted.column + length noted.rest → end.error ≡ noted.error
    → IsWrongEnd end line column reason → (h : IsHere text x.begun.texts place x.before) → line ≡ length x.begun.texts + 1
    × IsWrongAt (text_lines text) (length x.begun.texts) column reason
refused_by text rows place after noted end result line column reason x spaces last here passed_is same (inl (line_is, column_is, reason_is, wrong)) h = (
  line_is ∙ wrong_line_is text rows place after noted end result x here passed_is,
  inl (bad_here text rows place after noted end result x spaces.front spaces.is spaces.spaces last same wrong h, column_is, reason_is),
)
refused_by text rows place after noted end result line column reason x spaces last here passed_is same (inr (line_is, line_end, sound, error)) h =
    go x.named
  where
    go : IsNamedRow (may_come (state_after start rows) (shown_kind result)) after noted
        → (line ≡ length x.begun.texts + 1) × IsWrongAt (text_lines text) (length x.begun.texts) column reason
    go (inr (may, fails)) = absurd (failed_bad fails (ap is_bad (sym same) ∙ sound))
    go (inl (may, noted_is)) =
        let error_is : after.error ≡ Some (error_at column reason) = ap (λ (p : Place). p.error) (sym noted_is) ∙ sym same ∙ error in
        let sound_is : IsSound after = ap is_bad (ap (λ (p : Place). p.error) (sym noted_is) ∙ sym same) ∙ sound in
        let rest_is : after.rest ≡ spaces.front ++ end.rest = ap (λ (p : Place). p.rest) (sym noted_is) ∙ spaces.is in
        let w = whole_line text rows place after noted result x h sound_is spaces.front end.rest rest_is spaces.spaces line_end in
        let spelled = read_line text rows place after noted result x h spaces.front spaces.spaces w in (
          line_is ∙ here ∙ ap (λ (p : Place). p.line) noted_is ∙ x.reads.moves.line ∙ x.before.line_is,
          inr (
            record {
              earlier = x.begun.texts;
              text = x.before.lead ++ h.here;
              begin = with_line x.begun.texts (x.before.lead ++ h.here) h.more (text_lines text) h.lines;
              lines = lines_from start rows;
              pieces = row_pieces (state_after start rows) x.reads.row;
              begun = one_more text rows place after noted result x h may sound_is spelled;
              wrong = error_here text rows place after noted result x h (error_at column reason) error_is sound_is spaces.front end.rest rest_is
                  spaces.spaces line_end;
            },
            λ other kind less wrong. let small = least_here text rows place after noted result x h (error_at column reason) error_is sound_is
                spaces.front end.rest rest_is spaces.spaces line_end other kind wrong in
                absurd (omega (arith, small, less)),
          ),
        )

-- The line at a place up to which a listing is begun is refused as it is named.
pub wrong_line_here : (text : Text) (rows : List Row) (place after noted : Place) (result : ReadRow) (line column : ℕ) (reason : BuildReason)
    → IsReadHere text rows place after noted result → IsNamed noted line column reason → IsRefusedAt text line column reason
wrong_line_here text rows place after noted result line column reason x named =
    let texts = x.begun.texts in
    let h = line_at text texts place x.before x.begun.plain x.begun.past in
    let (line_is, wrong) = refused_by text rows place after noted named.end result line column reason x named.spaces named.last named.here named.passed
    named.same named.named h in
    let here = x.before.lead ++ h.here in
    let long : length (text_lines text) ≡ length texts + length (here ∷ h.more) = ap length h.lines ∙ length-append texts (here ∷ h.more) in
    let one : length (here ∷ h.more) ≡ suc (length h.more) = refl in
    inl (
      length texts,
      line_is,
      (let small : length texts < length (text_lines text) = omega (arith, long, one) in small),
      right_so_far rows texts (here ∷ h.more) (text_lines text) h.lines (text_plain text) x.begun.run x.begun.stated x.begun.fit,
      wrong,
    )
