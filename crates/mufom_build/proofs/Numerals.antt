-- Digits of which more is told than their number: the kind of a block, and the number of bytes that follow.
use Rattle.std.proofs.Common.{◌≡◌, ℕ, ◌+◌, ◌-◌, ◌*◌, ◌/◌, ◌<◌, ◌≤◌, ◌^◌, List, [], ◌∷◌, ◌++◌, length, codes, Option, Some, None, MatchOption}
use Rattle.std.proofs.Common.{refl, sym, ap, subst, ◌∙◌, arith, append_assoc, if◌then◌else◌}
use Rattle.std.specs.Str.Parse.{IsNumeral, digits_value}
use Rattle.mufom_text.specs.Words.{Text}
use Rattle.mufom_build_text.specs.declared.cursor.LineError.{LineError}
use Rattle.mufom_refusals.specs.declared.build.BuildReason.TheVariants.{Count, TooGreat}
use Rattle.mufom_build_text.specs.Errors.{IsSound, noted, judged, piece_error, stated_error, is_bad}
use Rattle.mufom_build_text.specs.Loosely.{Moves, PassesOne, Passes, Goes, ReadsWords, ReadsDigits, ReadsHex, NoFigure, NoHex}
use Rattle.mufom_build_text.specs.Pieces.{Piece, gap, figure, count, digits, loose, SpellsPiece, SpellsDigits, MOST_NUMBER}
use Rattle.mufom_build_text.specs.Reads.{Place}
use Rattle.mufom_build_text.proofs.Loosely.{moves_nowhere, moves_then, passes_then, longer, no_figure_ends, right_is_sound}
use Rattle.mufom_build_text.proofs.Noted.{lt_no, judged_is, judged_bad, judged_right}
use Rattle.mufom_build.specs.Marked.{spaced_digits}
use Rattle.mufom_build.proofs.NextBytes.{goes_digits, goes_end}
use Rattle.mufom_build.specs.ReadKinds.{HasEndAhead, ReadsCounted, ReadsFew, ReadsLast}

-- what a line goes on with after digits
after_digits : {stated : Option ℕ} (piece : Piece) (ps : List Piece) {a b : Place} → ReadsDigits stated a b
    → ((front : Text) → SpellsPiece loose piece front → IsNumeral 10 front) → NoFigure ps → Goes (piece ∷ ps) a
    → (front : Text) × SpellsPiece loose piece front
    × MatchOption stated (2 ^ 64 ≤ digits_value 10 front) (λ n. digits_value 10 front ≡ n) × Goes ps b
after_digits {stated} piece ps {a} {b} read numeral no_figure goes =
    let (first, rest, e, spelled, others) = goes.spelled in
    let all : a.rest ≡ first ++ (rest ++ (goes.spaces ++ goes.end)) =
    goes.is ∙ ap (λ l. l ++ (goes.spaces ++ goes.end)) e ∙ append_assoc first rest (goes.spaces ++ goes.end) in
    let (same, left, kept) = read.reads.takes (digits_value 10 first) first (rest ++ (goes.spaces ++ goes.end)) goes.sound all
    (numeral first spelled, refl) (no_figure_ends ps rest goes.spaces goes.end no_figure others goes.are goes.line_end) in
    let on : Goes ps b = record {
      sound = kept;
      front = rest;
      spaces = goes.spaces;
      end = goes.end;
      is = left;
      spelled = others;
      are = goes.are;
      line_end = goes.line_end;
    } in
    (first, spelled, subst (λ (v : ℕ). MatchOption stated (2 ^ 64 ≤ v) (λ n. v ≡ n)) (sym same) (read.is kept), on)

stated_is : (stated : Option ℕ) (v : ℕ) → v < 2 ^ 64 → MatchOption stated (2 ^ 64 ≤ v) (λ n. v ≡ n) → stated ≡ Some v
stated_is None v small great = absurd (omega (arith, small, great))
stated_is (Some n) v small is = ap Some (sym is)

-- ---- the kind of a block

-- The digits are a number that the value after them tells.
pub kind_then : {Y : Type 0} {g : Y → List Piece} {M : Y → Type 0} {Q : List Piece → Type 0} {y : Y} {stated : Option ℕ} {a b c : Place}
    (kind : Y → ℕ) → ((z : Y) → kind z < 2 ^ 64) → ReadsDigits stated a b
    → ((z : Y) (more : List Piece) → Q more → NoFigure (g z ++ more)) → ReadsFew g (λ (z : Y). (stated ≡ Some (kind z)) × M z) Q y b c
    → ReadsFew (λ (z : Y). figure MOST_NUMBER (kind z) ∷ g z) M Q y a c
kind_then {Y} {g} {M} {Q} {y} {stated} {a} {b} {c} kind small read tails p = record {
  value = p.value;
  moves = moves_then read.reads.moves p.moves;
  passes = λ sound.
      let before : IsSound b = p.moves.sound sound in
      let t = read.reads.passes before in
      let long = longer t.front b.rest a.rest t.is in
      let value : read.value ≡ kind p.value = subst (λ (o : Option ℕ). MatchOption o (2 ^ 64 ≤ read.value) (λ n. read.value ≡ n))
      (p.few sound).0 (read.is before) in
      let one : PassesOne (figure MOST_NUMBER (kind p.value)) a b = record {
        front = t.front;
        is = t.is;
        spelled = (t.spelled.0, t.spelled.1 ∙ value);
        line = read.reads.moves.line;
        column = omega (arith, long, read.reads.moves.column);
        error = t.error ∙ ap (λ e. noted a.error a.column e) (sym (right_kind (kind p.value) (small p.value)));
      } in
      (b, one, p.passes sound);
  few = λ sound. (p.few sound).1;
  same = p.same;
  takes = λ z more few tail goes.
      let (front, spelled, is, on) = after_digits (figure MOST_NUMBER (kind z)) (g z ++ more) read (λ s n. n.0) (tails z more tail) goes in
      let value = subst (λ (v : ℕ). MatchOption stated (2 ^ 64 ≤ v) (λ n. v ≡ n)) spelled.1 is in
      p.takes z more (stated_is stated (kind z) (small z) value, few) tail on;
}
  where
    right_kind : (n : ℕ) → n < 2 ^ 64 → piece_error (figure MOST_NUMBER n) [] ≡ None
    right_kind n below = ap (λ (t : _). if t then Some TooGreat else None) (lt_no MOST_NUMBER n (omega (arith, below)))

-- ---- the number of bytes that follow

abbrev with_error : Place → Option LineError → Place
with_error place e = record place { error = e }

-- bytes by their digits have no error
silent : (bytes : List ℕ) (a b : Place) → Passes (spaced_digits bytes) a b → b.error ≡ a.error
silent [] a b same = ap (λ (p : Place). p.error) (sym same)
silent (x ∷ bytes) a b (m, one, (n, two, same)) = ap (λ (p : Place). p.error) (sym same) ∙ two.error ∙ one.error

changed : (bytes : List ℕ) (e : Option LineError) (a b : Place) → Passes (spaced_digits bytes) a b
    → Passes (spaced_digits bytes) (with_error a e) (with_error b e)
changed [] e a b same = ap (λ (p : Place). with_error p e) same
changed (x ∷ bytes) e a b (m, one, (n, two, same)) =
    (with_error m e, gapped, (with_error n e, digited, ap (λ (p : Place). with_error p e) same))
  where
    gapped : PassesOne gap (with_error a e) (with_error m e)
    gapped = record { front = one.front; is = one.is; spelled = one.spelled; line = one.line; column = one.column; error = refl }

    digited : PassesOne (digits (x ∷ bytes)) (with_error m e) (with_error n e)
    digited = record { front = two.front; is = two.is; spelled = two.spelled; line = two.line; column = two.column; error = refl }

-- ---- bytes after a space

pub no_bytes_read : {bytes : List ℕ} (a : Place) → bytes ≡ [] → HasEndAhead a.rest → ReadsCounted bytes 0 a a
no_bytes_read a none ended = record {
  reads = record {
    value = [];
    moves = moves_nowhere a;
    passes = λ sound. refl;
    few = λ sound. tt;
    same = λ right. none;
    takes = λ bs more few tail goes. only bs more goes;
  };
  counted = λ sound. refl;
}
  where
    only : (bytes : List ℕ) (more : List Piece) → Goes (spaced_digits bytes ++ more) a → (bytes ≡ []) × Goes more a
    only [] more goes = (refl, goes)
    only (b ∷ bytes) more goes = absurd (goes_digits b bytes more goes ended)

two_each : (bytes : List ℕ) (s : Text) → SpellsDigits bytes s → length s ≡ 2 * length bytes
two_each [] s e = ap length e
two_each (b ∷ bytes) s (high, low, rest, e, are, more) =
    let all : length s ≡ length (high ∷ low ∷ rest) = ap length e in
    let others = two_each bytes rest more in
    omega (arith, all, others)

pub spaced_read : {bytes : List ℕ} (n : ℕ) {a b c : Place} → (HasEndAhead a.rest → ⊥) → ReadsWords (codes " ") a b → ReadsHex bytes b c
    → n ≡ (c.column - b.column) / 2 → ReadsCounted bytes n a c
spaced_read {bytes} n {a} {b} {c} goes_on space h is = record {
  reads = record {
    value = h.reads.value.0 ∷ h.reads.value.1;
    moves = moves_then space.moves h.reads.moves;
    passes = λ sound. passes_then (gap ∷ []) (digits (h.reads.value.0 ∷ h.reads.value.1) ∷ []) a b c (space.passes (h.reads.moves.sound sound))
        (h.reads.passes sound);
    few = λ sound. tt;
    same = λ right. h.is (right_is_sound c right) ∙ ap (λ (p : ℕ × List ℕ). p.0 ∷ p.1) (h.reads.same right);
    takes = λ bs more few tail goes. only bs more tail goes;
  };
  counted = λ sound. is ∙ half (h.reads.passes sound);
}
  where
    only : (bs : List ℕ) (more : List Piece) → more ≡ [] → Goes (spaced_digits bs ++ more) a
        → (bs ≡ h.reads.value.0 ∷ h.reads.value.1) × Goes more c
    only [] more tail goes = absurd (goes_on (goes_end (subst (λ (l : List Piece). Goes l a) tail goes)))
    only (x ∷ bs) more tail goes =
        let on = (space.takes tt (digits (x ∷ bs) ∷ more) refl goes).1 in
        let (same, left) = h.reads.takes (x, bs) more (subst NoHex (sym tail) refl) on in
        (ap (λ (p : ℕ × List ℕ). p.0 ∷ p.1) same, left)

    halved : (k l m : ℕ) → k ≡ l + 2 * m → (k - l) / 2 ≡ m
    halved k l m e = omega (arith, e)

    half : Passes (digits (h.reads.value.0 ∷ h.reads.value.1) ∷ []) b c → (c.column - b.column) / 2 ≡ length (h.reads.value.0 ∷ h.reads.value.1)
    half (next, one, same) =
        let twice = two_each (h.reads.value.0 ∷ h.reads.value.1) one.front one.spelled in
        let end : c.column ≡ next.column = ap (λ (p : Place). p.column) (sym same) in
        halved c.column b.column (length (h.reads.value.0 ∷ h.reads.value.1)) (let column = one.column in omega (arith, end, column, twice))

digits_end : (bytes : List ℕ) (more : List Piece) → more ≡ [] → NoFigure (spaced_digits bytes ++ more)
digits_end [] more none = subst NoFigure (sym none) refl
digits_end (b ∷ bytes) more none = refl

-- The number is judged once the bytes are read, and stands before them.
count_read : {bytes : List ℕ} {n : ℕ} {stated : Option ℕ} {a b c d : Place} → 0 < a.column → ReadsDigits stated a b
    → (p : ReadsLast spaced_digits bytes b c) → (IsSound c → n ≡ length p.value) → d.rest ≡ c.rest → d.line ≡ c.line → d.column ≡ c.column
    → d.error ≡ judged c.error a.column stated MOST_NUMBER n Count
    → ReadsLast (λ (bs : List ℕ). count (length bs) ∷ spaced_digits bs) bytes a d
count_read {bytes} {n} {stated} {a} {b} {c} {d} some read p counted rest line column error = record {
  value = p.value;
  moves = moves_then read.reads.moves (moves_then p.moves stay);
  passes = λ sound.
      let after : IsSound c = stay.sound sound in
      let before : IsSound b = p.moves.sound after in
      let t = read.reads.passes before in
      let long = longer t.front b.rest a.rest t.is in
      let small : MOST_NUMBER < 2 ^ 64 = omega arith in
      let value = subst (λ (v : ℕ). MatchOption stated (2 ^ 64 ≤ v) (λ n. v ≡ n)) (sym t.spelled.1) (read.is before) in
      let is_noted : d.error ≡ noted a.error a.column (stated_error MOST_NUMBER (length p.value) Count t.front) =
      error ∙ ap (λ e. judged e a.column stated MOST_NUMBER n Count) (silent p.value b c (p.passes after) ∙ t.error)
      ∙ ap (λ (m : ℕ). judged a.error a.column stated MOST_NUMBER m Count) (counted after)
      ∙ judged_is a.error a.column MOST_NUMBER (length p.value) Count stated t.front small value in
      let one : PassesOne (count (length p.value)) a (with_error b d.error) = record {
        front = t.front;
        is = t.is;
        spelled = t.spelled.0;
        line = read.reads.moves.line;
        column = omega (arith, long, read.reads.moves.column);
        error = is_noted;
      } in (
        with_error b d.error,
        one,
        subst (λ (q : Place). Passes (spaced_digits p.value) (with_error b d.error) q) at_end (changed p.value d.error b c (p.passes after)),
      );
  few = λ sound. tt;
  same = λ right. p.same (stay.right right);
  takes = λ bs more few tail goes.
      let (front, spelled, is, on) = after_digits (count (length bs)) (spaced_digits bs ++ more) read (λ s n. n) (digits_end bs more tail) goes in
      let (one, left) = p.takes bs more tt tail on in (
        one,
        record {
          sound = ap is_bad error ∙ judged_bad c.error a.column stated MOST_NUMBER n Count some ∙ left.sound;
          front = left.front;
          spaces = left.spaces;
          end = left.end;
          is = rest ∙ left.is;
          spelled = left.spelled;
          are = left.are;
          line_end = left.line_end;
        },
      );
}
  where
    stay : Moves c d
    stay = let long : length d.rest ≡ length c.rest = ap length rest in record {
      line = line;
      column = omega (arith, long, column);
      within = omega (arith, long);
      sound = λ sound. sym (ap is_bad error ∙ judged_bad c.error a.column stated MOST_NUMBER n Count some) ∙ sound;
      right = λ right. judged_right c.error a.column stated MOST_NUMBER n Count (sym error ∙ right);
    }

    at_end : with_error c d.error ≡ d
    at_end = λ i. record { rest = sym rest i; line = sym line i; column = sym column i; error = d.error }

-- where the column was asked for
pub count_noted : {bytes : List ℕ} {n : ℕ} {stated : Option ℕ} {a b c d : Place} (at : ℕ) → ReadsDigits stated a b → at ≡ a.column → 0 < at
    → ReadsCounted bytes n b c → d.rest ≡ c.rest → d.line ≡ c.line → d.column ≡ c.column
    → d.error ≡ judged c.error at stated MOST_NUMBER n Count → ReadsLast (λ (bs : List ℕ). count (length bs) ∷ spaced_digits bs) bytes a d
count_noted {bytes} {n} {stated} {a} {b} {c} {d} at read is some p rest line column error =
    count_read (subst (λ (k : ℕ). 0 < k) is some) read p.reads p.counted rest line column
    (error ∙ ap (λ (k : ℕ). judged c.error k stated MOST_NUMBER n Count) is)
