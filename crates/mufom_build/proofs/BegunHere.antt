-- What is wrong with the line at a place up to which a listing is begun.
use Rattle.std.proofs.Common.{◌≡◌, ℕ, suc, ◌+◌, ◌-◌, ◌<◌, ◌≤◌, ◌==◌, ◌&&◌, nat_lt, Bool, true, false, List, [], ◌∷◌, ◌++◌, length, take, drop, flat_map}
use Rattle.std.proofs.Common.{Some, None, refl, sym, ap, subst, ◌∙◌, inl, inr, ◌⊎◌, append_assoc, append-nil, arith, if◌then◌else◌, length-append}
use Rattle.std.proofs.lemmas.List.{take-append-drop}
use Rattle.std.specs.List.{AllByRecursion}
use Rattle.mufom_text.specs.Words.{Text, line}
use Rattle.mufom_build_text.specs.declared.cursor.LineError.{LineError}
use Rattle.mufom_refusals.specs.declared.build.BuildReason.{BuildReason}
use Rattle.mufom_refusals.specs.declared.build.BuildReason.TheVariants.{BadText}
use Rattle.mufom_build_text.specs.Pieces.{exact, loose, Spells, AreSpaces}
use Rattle.mufom_build_text.specs.Errors.{error_at, is_bad, IsSound, Fails, wrong_line, IsWrongEnd, IsNamed}
use Rattle.mufom_build_text.specs.Loosely.{Avoids, Goes}
use Rattle.mufom_build_text.specs.Reads.{Place, IsRight, IsLineEnd}
use Rattle.mufom_build_text.proofs.FirstBytes.{no, one_run, end_avoids}
use Rattle.mufom_build_text.proofs.Loosely.{right_is_sound, failed_bad}
use Rattle.mufom_build_text.proofs.Spelling.{spells-append, spells-one}
use Rattle.mufom_build.specs.declared.row.Row.{Row as ReadRow}
use Rattle.mufom_build.specs.Lines.{Line}
use Rattle.mufom_build.specs.ReadRows.{ReadsRow}
use Rattle.mufom_build.specs.Refusals.{text_lines, AreBegun, HasError, HasErrorAt, BeginWell, AreRight, IsWrongAt, IsRefusedAt}
use Rattle.mufom_build.specs.Rows.{Row}
use Rattle.mufom_build.specs.Shown.{shown_kind}
use Rattle.mufom_build.specs.Order.{State, start, next, state_after, kind_of, may_come, row_pieces, lines_from, AreInOrder, IsFew}
use Rattle.mufom_build.specs.Begun.{IsPlain, SpellsLine, AreRows, AllFit, IsBeforeLine, IsAtEnd, Begun, IsNamedRow}
use Rattle.mufom_build.proofs.TextLines.{NoFeed, IsDark, all_joined, spaces_plain, end_avoids_plain, EndsHere, first_line, only_line, last_text, lines_before}
use Rattle.mufom_build.proofs.Certain.{certain, IsTail}
use Rattle.mufom_build.proofs.RowLines.{row_plain}
use Rattle.mufom_build.proofs.CertainLines.{row_certain}
use Rattle.mufom_build.proofs.RowTexts.{run_split, run_joined, lines_joined, rows_joined, rows_loosely, no_row, body_avoids_space, one_line, one_rows}
use Rattle.mufom_build.proofs.Faults.{passed, IsFault, fault_of, fault_noted}
use Rattle.mufom_build.proofs.BegunRows.{last_same, take_front, take_next, take_fewer, plain_joined, text_plain, begun_rows, rows_begun}
use Rattle.mufom_build.proofs.BegunRows.{IsLast, last_stated, IsErrorAt, error_of_row}
use Rattle.mufom_build.proofs.Rightly.{none_wrong, back_tail}

-- ---- the line at a place

-- the bytes of a text up to the end of its first line
pub record IsFirstLine (text : Text) : Type 0 where
  pub line : Text
  pub end : Text
  pub is : text ≡ line ++ end
  pub plain : IsPlain line
  pub line_end : IsLineEnd end

pub first_of : (text : Text) → IsFirstLine text
first_of [] = record { line = []; end = []; is = refl; plain = tt; line_end = inl refl }
first_of (b ∷ text) = go (b == 10) refl (first_of text)
  where
    go : (c : Bool) → (b == 10) ≡ c → IsFirstLine text → IsFirstLine (b ∷ text)
    go true e rest = let is_feed : b ≡ 10 = grind arith in
        record { line = []; end = b ∷ text; is = refl; plain = tt; line_end = inr (text, ap (λ x. x ∷ text) is_feed) }
    go false e rest = record {
      line = b ∷ rest.line;
      end = rest.end;
      is = ap (λ l. b ∷ l) rest.is;
      plain = (λ same. let h : (10 == 10) ≡ false = subst (λ (x : ℕ). (x == 10) ≡ false) same e in cc, rest.plain);
      line_end = rest.line_end;
    }

-- the lines of a text behind some of them
pub lines_here : (texts : List Text) (here end : Text) → AllByRecursion IsPlain texts → IsPlain here → IsLineEnd end → 0 < length here
    → (more : List Text) × (text_lines (flat_map line texts ++ (here ++ end)) ≡ texts ++ here ∷ more)
lines_here texts here end plain plain_here (inl e) some = (
  [],
  lines_before texts (here ++ end) plain
      ∙ ap (λ l. texts ++ l) (ap text_lines (ap (λ l. here ++ l) e ∙ append-nil here) ∙ only_line here plain_here ∙ one here some),
)
  where
    one : (text : Text) → 0 < length text → last_text text ≡ text ∷ []
    one [] none = absurd (omega (arith, none))
    one (b ∷ text) h = refl
lines_here texts here end plain plain_here (inr (more, e)) some = (
  text_lines more,
  lines_before texts (here ++ end) plain
      ∙ ap (λ l. texts ++ l) (ap text_lines (ap (λ l. here ++ l) e) ∙ first_line here more plain_here),
)

-- The line at a place: the spaces before it, its bytes up to its end, and the lines of the text.
pub record IsHere (text : Text) (texts : List Text) (place : Place) (b : IsBeforeLine text texts place) : Type 0 where
  pub here : Text
  pub end : Text
  pub is : place.rest ≡ here ++ end
  pub plain : IsPlain here
  pub line_end : IsLineEnd end
  pub more : List Text
  pub lines : text_lines text ≡ texts ++ (b.lead ++ here) ∷ more

some_longer : (lead here : Text) (first : ℕ) (others : Text) → here ≡ first ∷ others → 0 < length (lead ++ here)
some_longer lead here first others e =
    let long : length (lead ++ here) ≡ length lead + length here = length-append lead here in
    let one : length here ≡ suc (length others) = ap length e in
    omega (arith, long, one)

pub line_at : (text : Text) (texts : List Text) (place : Place) (b : IsBeforeLine text texts place) → AllByRecursion IsPlain texts
    → ((b : ℕ) (more : Text) → place.rest ≡ b ∷ more → (b ≡ 32) ⊎ (b ≡ 10) → ⊥) → IsHere text texts place b
line_at text texts place b plain past = let f = first_of place.rest in go f f.line f.is f.plain
  where
    go : (f : IsFirstLine place.rest) (here : Text) → place.rest ≡ here ++ f.end → IsPlain here → IsHere text texts place b
    go f [] is plain_here = absurd (ended f.line_end)
      where
        ended : IsLineEnd f.end → ⊥
        ended (inl e) = let h : b.first ∷ b.others ≡ [] = sym b.some ∙ is ∙ e in cc
        ended (inr (more, e)) = past 10 more (is ∙ e) (inr refl)
    go f (x ∷ here) is plain_here =
        let all = lines_here texts (b.lead ++ (x ∷ here)) f.end plain (all_joined NoFeed b.lead (x ∷ here) (spaces_plain b.lead b.spaces) plain_here)
        f.line_end (some_longer b.lead (x ∷ here) x here refl) in
        record {
          here = x ∷ here;
          end = f.end;
          is = is;
          plain = plain_here;
          line_end = f.line_end;
          more = all.0;
          lines = ap text_lines (b.is ∙ ap (λ l. flat_map line texts ++ l)
              (ap (λ l. b.lead ++ l) is ∙ sym (append_assoc b.lead (x ∷ here) f.end))) ∙ all.1;
        }

-- what is before the line of a place, and with it
pub before_line : (texts : List Text) (here : Text) (more all : List Text) → all ≡ texts ++ here ∷ more → take (length texts) all ≡ texts
before_line texts here more all e = ap (λ l. take (length texts) l) e ∙ take_front texts (here ∷ more)

pub with_line : (texts : List Text) (here : Text) (more all : List Text) → all ≡ texts ++ here ∷ more
    → take (length texts + 1) all ≡ texts ++ here ∷ []
with_line texts here more all e = ap (λ l. take (length texts + 1) l) e ∙ take_next texts here more

-- ---- nothing is wrong before

pub right_so_far : (rows : List Row) (texts more all : List Text) → all ≡ texts ++ more → AllByRecursion IsPlain all → AreInOrder start rows
    → AreRows exact start rows texts → AllFit (lines_from start rows) → AreRight all (length texts)
right_so_far rows texts more all is plain run stated fit = record {
  begin = (
    lines_from start rows,
    subst (λ (l : List Text). AreBegun l (lines_from start rows)) (sym (ap (λ l. take (length texts) l) is ∙ take_front texts more))
        (rows_begun texts rows run (rows_loosely exact start rows texts stated)),
  );
  right = λ at column reason small wrong.
      let e = error_of_row all at column reason plain wrong in
      let first : take (at + 1) texts ≡ e.earlier ++ e.text ∷ [] =
      sym (take_fewer (at + 1) texts more (omega (arith, small))) ∙ ap (λ l. take (at + 1) l) (sym is) ∙ e.begin in
      none_wrong rows texts all at column reason stated fit e (drop (at + 1) texts)
      (sym (take-append-drop (at + 1) texts) ∙ ap (λ l. l ++ drop (at + 1) texts) first);
}

-- ---- the line goes on with a row

-- the bytes of a line, where it begins with no space
pub same_lead : (lead here before rest : Text) → AreSpaces lead → AreSpaces before → lead ++ here ≡ before ++ rest → Avoids (λ b. b ≡ 32) here
    → Avoids (λ b. b ≡ 32) rest → here ≡ rest
same_lead lead here before rest spaces leading e avoids other = (one_run (λ b. b ≡ 32) lead before here rest spaces leading e avoids other).1

pub here_avoids : (place : Place) (here end : Text) → place.rest ≡ here ++ end
    → ((b : ℕ) (more : Text) → place.rest ≡ b ∷ more → (b ≡ 32) ⊎ (b ≡ 10) → ⊥) → Avoids (λ b. b ≡ 32) here
here_avoids place here end is past = λ b more e space. past b (more ++ end) (is ∙ ap (λ l. l ++ end) e) (inl space)

-- the bytes of a line with an error begin with no space
pub error_avoids : (s : State) (r : Row) (text : Text) (column : ℕ) (reason : BuildReason) → (e : HasError text (row_pieces s r) column reason)
    → Avoids (λ b. b ≡ 32) (e.front ++ (e.bytes ++ (e.back ++ e.after)))
error_avoids s r text column reason e =
    let spelled = subst (λ (l : Line). Spells loose l (e.front ++ (e.bytes ++ e.back))) (sym e.made_of)
    (spells-append loose e.earlier (e.piece ∷ e.later) e.front (e.bytes ++ e.back) e.spells_front
    (spells-append loose (e.piece ∷ []) e.later e.bytes e.back (spells-one loose e.piece e.bytes e.spells_piece) e.spells_back)) in
    subst (λ (l : Text). Avoids (λ b. b ≡ 32) l)
    (append_assoc e.front (e.bytes ++ e.back) e.after ∙ ap (λ l. e.front ++ l) (append_assoc e.bytes e.back e.after))
    (body_avoids_space s r (e.front ++ (e.bytes ++ e.back)) e.after spelled)

pub goes_here : (s : State) (r : Row) (place : Place) (lead here end : Text) → place.rest ≡ here ++ end → IsLineEnd end → IsRight place
    → ((b : ℕ) (more : Text) → place.rest ≡ b ∷ more → (b ≡ 32) ⊎ (b ≡ 10) → ⊥) → AreSpaces lead
    → SpellsLine loose (row_pieces s r) (lead ++ here) → Goes (row_pieces s r) place
goes_here s r place lead here end is line_end right past spaces (before, body, after, e, leading, spelled, trailing) =
    let same = same_lead lead here before (body ++ after) spaces leading e (here_avoids place here end is past)
    (body_avoids_space s r body after spelled) in
    record {
      sound = right_is_sound place right;
      front = body;
      spaces = after;
      end = end;
      is = is ∙ ap (λ l. l ++ end) same ∙ append_assoc body after end;
      spelled = spelled;
      are = trailing;
      line_end = line_end;
    }

-- behind a line that has ended come spaces and its end
pub ends_after : (after end : Place) → Goes [] after → (front : Text) → after.rest ≡ front ++ end.rest → AreSpaces front
    → ((more : Text) → end.rest ≡ 32 ∷ more → ⊥) → IsLineEnd end.rest
ends_after after end goes front is spaces last =
    let all : front ++ end.rest ≡ goes.spaces ++ goes.end = sym is ∙ goes.is ∙ ap (λ l. l ++ (goes.spaces ++ goes.end)) goes.spelled in
    let avoids : Avoids (λ b. b ≡ 32) end.rest = λ b more e space. last more (e ∙ ap (λ x. x ∷ more) space) in
    let same = (one_run (λ b. b ≡ 32) front goes.spaces end.rest goes.end spaces goes.are all avoids (end_avoids goes.end goes.line_end)).1 in
    subst (λ (l : Text). IsLineEnd l) (sym same) goes.line_end

-- no line is behind all of them
pub not_behind : (p : Place) → 1 < p.column + length p.rest → wrong_line p ≡ p.line
not_behind p some = go (length p.rest == 0) (p.column == 1) refl refl
  where
    go : (a b : Bool) → (length p.rest == 0) ≡ a → (p.column == 1) ≡ b
        → (if a && (b && nat_lt 1 p.line) then p.line - 1 else p.line) ≡ p.line
    go false b e f = refl
    go true false e f = refl
    go true true e f = absurd (let none : length p.rest ≡ 0 = grind arith in let one : p.column ≡ 1 = grind arith in omega (arith, none, one, some))

-- ---- the line is wrong

-- what is read of the line at a place before it
pub record IsReadHere (text : Text) (rows : List Row) (place after noted : Place) (result : ReadRow) : Type 0 where
  pub begun : Begun text rows place
  pub before : IsBeforeLine text begun.texts place
  pub reads : ReadsRow (state_after start rows) result place after
  pub named : IsNamedRow (may_come (state_after start rows) (shown_kind result)) after noted

true_is_false : true ≡ false → ⊥
true_is_false e = cc

-- a row that may come here and goes on from the place is the one that is read, and the line ends behind it
pub row_read : (text : Text) (rows : List Row) (place after noted : Place) (result : ReadRow) → IsReadHere text rows place after noted result
    → (r : Row) → may_come (state_after start rows) (kind_of r) ≡ true → IsFew r → Goes (row_pieces (state_after start rows) r) place
    → (noted ≡ after) × Goes [] after
row_read text rows place after noted result x r may few goes =
    let (same, ended) = x.reads.takes r few goes in
    let kind : shown_kind result ≡ kind_of r = x.reads.kind ended.sound ∙ ap kind_of (sym same) in
    let may_here : may_come (state_after start rows) (shown_kind result) ≡ true = ap (λ k. may_come (state_after start rows) k) kind ∙ may in
    (go x.named may_here, ended)
  where
    go : IsNamedRow (may_come (state_after start rows) (shown_kind result)) after noted
        → may_come (state_after start rows) (shown_kind result) ≡ true → noted ≡ after
    go (inl (may, same)) h = same
    go (inr (may, fails)) h = absurd (true_is_false (sym h ∙ may))

-- the end of what is noted is on the line of the place, and not behind it
pub wrong_line_is : (text : Text) (rows : List Row) (place after noted end : Place) (result : ReadRow)
    → (x : IsReadHere text rows place after noted result) → end.line ≡ noted.line
    → end.column + length end.rest ≡ noted.column + length noted.rest → wrong_line end ≡ length x.begun.texts + 1
wrong_line_is text rows place after noted end result x here passed = go x.named
  where
    long : length place.rest ≡ suc (length x.before.others)
    long = ap length x.before.some

    at : noted.line ≡ after.line → noted.column + length noted.rest ≡ after.column + length after.rest
        → wrong_line end ≡ length x.begun.texts + 1
    at same columns =
        let moved = x.reads.moves.column in
        let some : 1 < end.column + length end.rest = omega (arith, passed, columns, moved, long, x.before.column_is) in
        not_behind end some ∙ here ∙ same ∙ x.reads.moves.line ∙ x.before.line_is

    go : IsNamedRow (may_come (state_after start rows) (shown_kind result)) after noted → wrong_line end ≡ length x.begun.texts + 1
    go (inl (may, same)) = at (ap (λ (p : Place). p.line) same) (ap (λ (p : Place). p.column + length p.rest) same)
    go (inr (may, fails)) =
        let rests : length noted.rest ≡ length after.rest = ap length fails.rest in
        at fails.line (omega (arith, rests, fails.column))

-- the lines up to this one begin no listing
pub bad_here : (text : Text) (rows : List Row) (place after noted end : Place) (result : ReadRow) → (x : IsReadHere text rows place after noted result)
    → (front : Text) → noted.rest ≡ front ++ end.rest → AreSpaces front → ((more : Text) → end.rest ≡ 32 ∷ more → ⊥) → end.error ≡ noted.error
    → (IsLineEnd end.rest → ⊥) ⊎ (is_bad end.error ≡ true) → (h : IsHere text x.begun.texts place x.before)
    → ¬ (BeginWell (text_lines text) (length x.begun.texts + 1))
bad_here text rows place after noted end result x front is spaces last error wrong h (lines, begun) =
    let texts = x.begun.texts in
    let s = state_after start rows in
    let here = x.before.lead ++ h.here in
    let all = with_line texts here h.more (text_lines text) h.lines in
    let plain = plain_joined texts (here ∷ []) x.begun.plain
    (all_joined NoFeed x.before.lead h.here (spaces_plain x.before.lead x.before.spaces) h.plain, tt) in
    let b = begun_rows (texts ++ here ∷ []) lines plain (subst (λ (l : List Text). AreBegun l lines) all begun) in
    let q = last_stated loose b.rows texts here (λ blank. not_blank h.here h.is (spaces_of x.before.lead h.here blank)) b.stated in
    let same = one_rows start rows q.first texts (rows_loosely exact start rows texts x.begun.stated) q.stated in
    let run = subst (λ (l : List Row). AreInOrder start l) (q.is ∙ ap (λ l. l ++ q.row ∷ []) (sym same)) b.run in
    let (may, few, none) = (run_split start rows (q.row ∷ []) run).1 in
    let spelled = subst (λ (l : List Row). SpellsLine loose (row_pieces (state_after start l) q.row) here) (sym same) q.spelled in
    let goes = goes_here s q.row place x.before.lead h.here h.end h.is h.line_end x.begun.right x.begun.past x.before.spaces spelled in
    let (noted_is, ended) = row_read text rows place after noted result x q.row may few goes in
    let after_is : after.rest ≡ front ++ end.rest = ap (λ (p : Place). p.rest) (sym noted_is) ∙ is in
    go wrong (ends_after after end ended front after_is spaces last)
    (ap is_bad (error ∙ ap (λ (p : Place). p.error) noted_is) ∙ ended.sound)
  where
    spaces_of : (s t : Text) → AreSpaces (s ++ t) → AreSpaces t
    spaces_of [] t all = all
    spaces_of (b ∷ s) t (here, all) = spaces_of s t all

    not_blank : (here : Text) → place.rest ≡ here ++ h.end → AreSpaces here → ⊥
    not_blank [] is blank = ended h.line_end
      where
        ended : IsLineEnd h.end → ⊥
        ended (inl e) = let k : x.before.first ∷ x.before.others ≡ [] = sym x.before.some ∙ is ∙ e in cc
        ended (inr (more, e)) = x.begun.past 10 more (is ∙ e) (inr refl)
    not_blank (b ∷ here) is (space, blank) = x.begun.past b (here ++ h.end) is (inl space)

    go : (IsLineEnd end.rest → ⊥) ⊎ (is_bad end.error ≡ true) → IsLineEnd end.rest → is_bad end.error ≡ false → ⊥
    go (inl more) line_end sound = more line_end
    go (inr bad) line_end sound = true_is_false (sym bad ∙ sound)
