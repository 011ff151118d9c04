-- What a reader of a piece does, and of one piece after another.
use Rattle.std.proofs.Common.{◌≡◌, ℕ, ◌+◌, ◌<◌, ◌≤◌, ◌^◌, ◌==◌, ◌&&◌, Bool, true, false, List, [], ◌∷◌, ◌++◌, length, take, drop, Option, Some, None}
use Rattle.std.proofs.Common.{MatchOption, refl, sym, ap, subst, ◌∙◌, arith, append_assoc, get_or, length-append}
use Rattle.std.proofs.Common.{if◌then◌else◌, eqb-true}
use Rattle.std.proofs.lemmas.List.{take_more, take_all, take-append-drop, map-append}
use Rattle.std.specs.Str.Parse.{AllDigits, IsNumeral, digits_value}
use Rattle.mufom_text.specs.Words.{Text}
use Rattle.mufom_refusals.specs.declared.build.BuildReason.TheVariants.{Position, Count}
use Rattle.mufom_build_text.specs.Pieces.{Piece, byte, gap, figure, position, count, name, digits, expression, block, exact, loose}
use Rattle.mufom_build_text.specs.Pieces.{Spells, SpellsPiece, SpellsNumber, AreSpaces, words, word_piece, MOST_POSITION, MOST_NUMBER}
use Rattle.mufom_build_text.specs.Reads.{Place, IsRight, IsSpaceFront, IsLineEnd, ReadsRight, Reads, ReadsNumeral}
use Rattle.mufom_build_text.specs.Errors.{noted, limited, judged, is_bad, IsSound, Fails, piece_error}
use Rattle.mufom_build_text.specs.Loosely.{Avoids, IsSpace, IsFigure, no_space, follows, NoSpace, NoFigure, Follows, Anything, AnyText}
use Rattle.mufom_build_text.specs.Loosely.{Moves, PassesOne, Passes, Goes, ReadsLoosely, ReadsWords, ReadsFigure, ReadsPosition}
use Rattle.mufom_build_text.specs.Loosely.{ReadsText, ReadsByte, ReadsGap, ReadsDigits}
use Rattle.mufom_build_text.proofs.FirstBytes.{no, both_true, one_run, all_figures}
use Rattle.mufom_build_text.proofs.FirstBytes.{numeral_first, no_space_spelled, no_figure_spelled, avoids_after, end_avoids}
use Rattle.mufom_build_text.proofs.Noted.{bad_stays, noted_right, limited_is, judged_is, limited_bad, limited_right, judged_bad, judged_right}
use Rattle.mufom_build_text.proofs.Noted.{stated_right, none_is, some_is}
use Rattle.mufom_build_text.proofs.Lists.{empty}

-- ---- places

pub moves_nowhere : (a : Place) → Moves a a
moves_nowhere a = record { line = refl; column = refl; within = omega arith; sound = λ s. s; right = λ r. r }

pub moves_then : {a b c : Place} → Moves a b → Moves b c → Moves a c
moves_then {a} {b} {c} p q = record {
  line = q.line ∙ p.line;
  column = q.column ∙ p.column;
  within = omega (arith, p.within, q.within);
  sound = λ s. p.sound (q.sound s);
  right = λ r. p.right (q.right r);
}

-- where nothing is noted
pub moves_right : {a b : Place} → b.line ≡ a.line → b.column + length b.rest ≡ a.column + length a.rest → length b.rest ≤ length a.rest
    → b.error ≡ a.error → Moves a b
moves_right {a} {b} line column within error = record {
  line = line;
  column = column;
  within = within;
  sound = λ s. ap is_bad (sym error) ∙ s;
  right = λ r. sym error ∙ r;
}

-- over bytes
pub moves_over : (front after : Text) {a b : Place} → a.rest ≡ front ++ after → b.rest ≡ after
    → b.column + length after ≡ a.column + length a.rest → b.line ≡ a.line → b.error ≡ a.error → Moves a b
moves_over front after {a} {b} is rest column line error =
    let all : length a.rest ≡ length front + length after = ap length is ∙ length-append front after in
    let left : length b.rest ≡ length after = ap length rest in
    moves_right line (omega (arith, left, column)) (omega (arith, all, left)) error

pub right_is_sound : (a : Place) → IsRight a → IsSound a
right_is_sound a right = ap is_bad right

-- a missing piece
pub failed_bad : {a b : Place} → Fails a b → IsSound b → ⊥
failed_bad {a} {b} f sound = no (sym sound ∙ ap is_bad f.error ∙ bad_stays a.error)

pub moves_failed : {a b : Place} → Fails a b → Moves a b
moves_failed {a} {b} f =
    let same : length b.rest ≡ length a.rest = ap length f.rest in
    record {
      line = f.line;
      column = omega (arith, same, f.column);
      within = omega (arith, same);
      sound = λ s. absurd (failed_bad f s);
      right = λ r. absurd (failed_bad f (right_is_sound b r));
    }

-- ---- the bytes of one piece

pub text_missing : {X : Type 0} (Spelled : X → Text → Type 0) (Ends : Text → Type 0) (value : X) {a b : Place} → Fails a b
    → ((x : X) (front rest : Text) → a.rest ≡ front ++ rest → Spelled x front → Ends rest → ⊥) → ReadsText Spelled Ends value a b
text_missing Spelled Ends value f none = record {
  moves = moves_failed f;
  passes = λ sound. absurd (failed_bad f sound);
  takes = λ x front rest sound is spelled ends. absurd (none x front rest is spelled ends);
}

pub text_read : {X : Type 0} (Spelled : X → Text → Type 0) (Ends : Text → Type 0) (value : X) {a b : Place} → Moves a b → b.error ≡ a.error
    → (front : Text) → a.rest ≡ front ++ b.rest → Spelled value front
    → ((x : X) (other rest : Text) → a.rest ≡ other ++ rest → Spelled x other → Ends rest → (x ≡ value) × (b.rest ≡ rest))
    → ReadsText Spelled Ends value a b
text_read Spelled Ends value moves error front is spelled one = record {
  moves = moves;
  passes = λ sound. record { front = front; is = is; spelled = spelled; error = error };
  takes = λ x other rest sound is_other other_spelled ends. let (same, left) = one x other rest is_other other_spelled ends in
      (same, left, ap is_bad error ∙ sound);
}

pub byte_missing : (v : ℕ) {a b : Place} → Fails a b → ((more : Text) → a.rest ≡ v ∷ more → ⊥) → ReadsByte v a b
byte_missing v {a} {b} f none = text_missing (λ (u : Unit {0}) (text : Text). text ≡ v ∷ []) AnyText tt f
    (λ x front rest is spelled ends. none rest (is ∙ ap (λ l. l ++ rest) spelled))

pub byte_read : (v : ℕ) {a b : Place} → Moves a b → b.error ≡ a.error → a.rest ≡ v ∷ b.rest → ReadsByte v a b
byte_read v {a} {b} moves error is = text_read (λ (u : Unit {0}) (text : Text). text ≡ v ∷ []) AnyText tt moves error (v ∷ []) is refl
    (λ x front rest is_other spelled ends.
    let e : v ∷ b.rest ≡ v ∷ rest = sym is ∙ is_other ∙ ap (λ l. l ++ rest) spelled in (refl, cc))

some_spaces : (front : Text) → 0 < length front → AreSpaces front → (more : Text) × (front ≡ 32 ∷ more) × AreSpaces more
some_spaces [] some are = absurd (omega (arith, some))
some_spaces (x ∷ front) some (here, are) = (front, ap (λ b. b ∷ front) here, are)

-- a space, and any more
pub gap_read : {a b c : Place} → ReadsByte 32 a b → IsSpaceFront b.rest c.rest → ((more : Text) → c.rest ≡ 32 ∷ more → ⊥) → Moves b c
    → c.error ≡ b.error → ReadsGap a c
gap_read {a} {b} {c} first spaces last moves error = record {
  moves = moves_then first.moves moves;
  passes = λ sound. let one = first.passes (moves.sound sound) in
      let some : 0 < length (32 ∷ spaces.front) = omega arith in
      record {
        front = 32 ∷ spaces.front;
        is = one.is ∙ ap (λ l. l ++ b.rest) one.spelled ∙ ap (λ l. 32 ∷ l) spaces.is;
        spelled = (some, (refl, spaces.spaces));
        error = error ∙ one.error;
      };
  takes = λ x front rest sound is (some, are) ends.
      let (more, begins, are_more) = some_spaces front some are in
      let (same, left, kept) = first.takes tt (32 ∷ []) (more ++ rest) sound (is ∙ ap (λ l. l ++ rest) begins) refl tt in
      let avoids : Avoids IsSpace c.rest = λ y others e here. last others (e ∙ ap (λ z. z ∷ others) here) in
      let (run, ended) = one_run IsSpace spaces.front more c.rest rest spaces.spaces are_more (sym spaces.is ∙ left) avoids ends in
      (refl, ended, ap is_bad error ∙ kept);
}

-- ---- one piece

-- where nothing but an error within the line is noted, if anything
pub record Stays (before after : Place) : Type 0 where
  pub rest : after.rest ≡ before.rest
  pub line : after.line ≡ before.line
  pub column : after.column ≡ before.column
  pub same : is_bad after.error ≡ is_bad before.error
  pub right : IsRight after → IsRight before

pub stays : (a : Place) → Stays a a
stays a = record { rest = refl; line = refl; column = refl; same = refl; right = λ r. r }

pub moves_stays : {a b : Place} → Stays a b → Moves a b
moves_stays {a} {b} s =
    let same : length b.rest ≡ length a.rest = ap length s.rest in
    record {
      line = s.line;
      column = omega (arith, same, s.column);
      within = omega (arith, same);
      sound = λ sound. sym s.same ∙ sound;
      right = s.right;
    }

-- the end of the piece is found before all that may follow
abbrev pub IsEnded : (List Piece → Type 0) → (Text → Type 0) → Type 0
IsEnded Tail Ends = (more : List Piece) (rest spaces end : Text) → Tail more → Spells loose more rest → AreSpaces spaces → IsLineEnd end
    → Ends (rest ++ (spaces ++ end))

pub any_ends : IsEnded Anything AnyText
any_ends more rest spaces end tail spelled are line_end = tt

pub no_figure_ends : IsEnded NoFigure (Avoids IsFigure)
no_figure_ends more rest spaces end tail spelled are line_end =
    avoids_after IsFigure rest spaces end (no_figure_spelled more tail rest spelled) are line_end (λ f. omega (arith, f)) (λ f. omega (arith, f))

pub longer : (front rest all : Text) → all ≡ front ++ rest → length all ≡ length front + length rest
longer front rest all is = ap length is ∙ length-append front rest

-- A piece is read at b, and its error, if any, noted at c.
pub piece_read : {X Y : Type 0} (piece_of : Y → Piece) (Spelled : X → Text → Type 0) (Ends : Text → Type 0) (Tail : List Piece → Type 0) (x : X)
    (y result : Y) {a b c : Place} → ReadsText Spelled Ends x a b → Stays b c
    → ((front : Text) → Spelled x front → SpellsPiece loose (piece_of y) front)
    → ((z : Y) (front : Text) → SpellsPiece loose (piece_of z) front → (w : X) × Spelled w front × (w ≡ x → z ≡ y))
    → (IsSound b → (front : Text) → Spelled x front → c.error ≡ noted b.error a.column (piece_error (piece_of y) front))
    → (IsSound b → IsRight c → result ≡ y) → IsEnded Tail Ends → ReadsLoosely (λ (z : Y). piece_of z ∷ []) Tail result a c
piece_read piece_of Spelled Ends Tail x y result {a} {b} {c} read s to from error_is same ends = record {
  value = y;
  moves = moves_then read.moves (moves_stays s);
  passes = λ sound.
      let before : IsSound b = sym s.same ∙ sound in
      let t = read.passes before in
      let long = longer t.front b.rest a.rest t.is in
      let column : c.column ≡ a.column + length t.front = omega (arith, long, s.column, read.moves.column) in
      let one : PassesOne (piece_of y) a c = record {
        front = t.front;
        is = t.is ∙ ap (λ l. t.front ++ l) (sym s.rest);
        spelled = to t.front t.spelled;
        line = s.line ∙ read.moves.line;
        column = column;
        error = error_is before t.front t.spelled ∙ ap (λ e. noted e a.column (piece_error (piece_of y) t.front)) t.error;
      } in
      (c, one, refl);
  same = λ right. same (right_is_sound b (s.right right)) right;
  takes = λ z more tail goes.
      let (first, rest, e, spelled, others) = goes.spelled in
      let (w, is_spelled, is_same) = from z first spelled in
      let all : a.rest ≡ first ++ (rest ++ (goes.spaces ++ goes.end)) =
      goes.is ∙ ap (λ l. l ++ (goes.spaces ++ goes.end)) e ∙ append_assoc first rest (goes.spaces ++ goes.end) in
      let (same_value, left, kept) = read.takes w first (rest ++ (goes.spaces ++ goes.end)) goes.sound all is_spelled
      (ends more rest goes.spaces goes.end tail others goes.are goes.line_end) in (
        is_same same_value,
        record {
          sound = s.same ∙ kept;
          front = rest;
          spaces = goes.spaces;
          end = goes.end;
          is = s.rest ∙ left;
          spelled = others;
          are = goes.are;
          line_end = goes.line_end;
        },
      );
}

-- ---- numbers

pub figure_read : (most n : ℕ) (stated : Option ℕ) {a b c : Place} → most < 2 ^ 64 → 0 < a.column → ReadsDigits stated a b → c.rest ≡ b.rest
    → c.line ≡ b.line → c.column ≡ b.column → c.error ≡ limited b.error a.column stated most → (IsRight c → stated ≡ Some n)
    → ReadsFigure most n a c
figure_read most n stated {a} {b} {c} small some digits_read rest line column error same =
    let s : Stays b c = record {
      rest = rest;
      line = line;
      column = column;
      same = ap is_bad error ∙ limited_bad b.error a.column stated most some;
      right = λ right. limited_right b.error a.column stated most (sym error ∙ right);
    } in
    piece_read (λ v. figure most v) SpellsNumber (Avoids IsFigure) NoFigure digits_read.value digits_read.value n digits_read.reads s
    (λ front spelled. spelled) (λ z front spelled. (z, spelled, λ e. e))
    (λ sound front spelled. error ∙ limited_is b.error a.column most stated digits_read.value small (digits_read.is sound))
    (λ sound right. sym (subst (λ (o : Option ℕ). MatchOption o (2 ^ 64 ≤ digits_read.value) (λ k. digits_read.value ≡ k)) (same right)
    (digits_read.is sound)))
    no_figure_ends

pub position_read : (n : ℕ) (stated : Option ℕ) {a b c : Place} → 0 < a.column → ReadsDigits stated a b → c.rest ≡ b.rest → c.line ≡ b.line
    → c.column ≡ b.column → c.error ≡ judged b.error a.column stated MOST_POSITION n Position → ReadsPosition n a c
position_read n stated {a} {b} {c} some digits_read rest line column error =
    let s : Stays b c = record {
      rest = rest;
      line = line;
      column = column;
      same = ap is_bad error ∙ judged_bad b.error a.column stated MOST_POSITION n Position some;
      right = λ right. judged_right b.error a.column stated MOST_POSITION n Position (sym error ∙ right);
    } in
    let value_of : (front : Text) → SpellsNumber digits_read.value front → digits_read.value ≡ digits_value 10 front = λ front spelled. sym spelled.1 in
    let small : MOST_POSITION < 2 ^ 64 = omega arith in
    piece_read (λ (u : Unit {0}). position n) SpellsNumber (Avoids IsFigure) NoFigure digits_read.value tt tt digits_read.reads s
    (λ front spelled. spelled.0) (λ z front spelled. (digits_value 10 front, (spelled, refl), λ e. refl))
    (λ sound front spelled. error ∙ judged_is b.error a.column MOST_POSITION n Position stated front small
    (subst (λ (v : ℕ). MatchOption stated (2 ^ 64 ≤ v) (λ k. v ≡ k)) (value_of front spelled) (digits_read.is sound)))
    (λ sound right. refl) no_figure_ends

pub digits_missing : {a b : Place} → Fails a b → ((front rest : Text) → a.rest ≡ front ++ rest → IsNumeral 10 front → ⊥) → ReadsDigits None a b
digits_missing {a} {b} f none = record {
  value = 0;
  is = λ sound. absurd (failed_bad f sound);
  reads = text_missing SpellsNumber (Avoids IsFigure) 0 f (λ x front rest is spelled ends. none front rest is spelled.0);
}

pub digits_read : (stated : Option ℕ) (front : Text) {a b : Place} → Moves a b → b.error ≡ a.error → a.rest ≡ front ++ b.rest → IsNumeral 10 front
    → Avoids IsFigure b.rest → MatchOption stated (2 ^ 64 ≤ digits_value 10 front) (λ n. digits_value 10 front ≡ n) → ReadsDigits stated a b
digits_read stated front {a} {b} moves error is numeral last value = record {
  value = digits_value 10 front;
  is = λ sound. value;
  reads = text_read SpellsNumber (Avoids IsFigure) (digits_value 10 front) moves error front is (numeral, refl)
      (λ x other rest is_other spelled ends.
      let (same, left) = one_run IsFigure front other b.rest rest (all_figures front numeral.1) (all_figures other spelled.0.1)
      (sym is ∙ is_other) last ends in
      (sym spelled.1 ∙ ap (λ l. digits_value 10 l) (sym same), left));
}

-- the digits at the front of a text, of which there are none
pub numeral_missing : (text counted : Text) (n : ℕ) {a b : Place} → text ≡ a.rest → counted ≡ take n text → Avoids IsFigure (drop n text)
    → (length counted == 0) ≡ true → Fails a b → ReadsDigits None a b
numeral_missing text counted n {a} {b} is front last none f = digits_missing f (λ other rest is_other numeral.
    let (x, tail, begins, small) = numeral_first other numeral in
    let nothing : take n text ≡ [] = sym front ∙ empty counted (none_is (length counted) none) in
    let left : drop n text ≡ x ∷ (tail ++ rest) = ap (λ l. l ++ drop n text) (sym nothing) ∙ take-append-drop n text ∙ is ∙ is_other
    ∙ ap (λ l. l ++ rest) begins in
    last x (tail ++ rest) left small)

-- and of which there are some
pub numeral_read : (text counted after : Text) (n : ℕ) (stated : Option ℕ) {a b : Place} → text ≡ a.rest → counted ≡ take n text
    → after ≡ drop n text → AllDigits 10 (take n text) → Avoids IsFigure (drop n text) → (length counted == 0) ≡ false
    → MatchOption stated (2 ^ 64 ≤ digits_value 10 counted) (λ k. digits_value 10 counted ≡ k) → b.rest ≡ after
    → b.column + length after ≡ a.column + length a.rest → b.line ≡ a.line → b.error ≡ a.error → ReadsDigits stated a b
numeral_read text counted after n stated {a} {b} is front back all last some value rest column line error =
    let whole : a.rest ≡ counted ++ after = sym is ∙ sym (take-append-drop n text) ∙ ap (λ l. l ++ drop n text) (sym front)
    ∙ ap (λ l. counted ++ l) (sym back) in
    let numeral : IsNumeral 10 counted =
    (some_is (length counted) some, subst (λ (l : Text). AllDigits 10 l) (sym front) all) in
    digits_read stated counted (moves_over counted after whole rest column line error) error (whole ∙ ap (λ l. counted ++ l) (sym rest)) numeral
    (subst (λ (l : Text). Avoids IsFigure l) (sym back ∙ sym rest) last) value

pub numeral_of : {stated : Option ℕ} {a b : Place} → ReadsDigits stated a b → IsSound b → ReadsNumeral stated a b
numeral_of {stated} {a} {b} read sound = let t = read.reads.passes sound in record {
  front = t.front;
  is = t.is;
  numeral = t.spelled.0;
  value_is = subst (λ (v : ℕ). MatchOption stated (2 ^ 64 ≤ v) (λ k. v ≡ k)) (sym t.spelled.1) (read.is sound);
  error = t.error;
}

pub numeral_shorter : {stated : Option ℕ} {a b : Place} → ReadsNumeral stated a b → length b.rest < length a.rest
numeral_shorter {stated} {a} {b} read =
    let some : 0 < length read.front = read.numeral.0 in
    let long = longer read.front b.rest a.rest read.is in
    omega (arith, some, long)

-- ---- words

pub no_words : (a : Place) → ReadsWords [] a a
no_words a = record {
  value = tt;
  moves = moves_nowhere a;
  passes = λ sound. refl;
  same = λ right. refl;
  takes = λ x more tail goes. (refl, goes);
}

-- a byte of words that is no space
pub byte_word : (v : ℕ) {a b : Place} → (v ≡ 32 → ⊥) → ReadsByte v a b → ReadsWords (v ∷ []) a b
byte_word v {a} {b} no_gap read = go (v == 32) (eqb-true v 32)
  where
    go : (is_space : Bool) → (is_space ≡ true → v ≡ 32) → ReadsLoosely (λ (u : Unit {0}). (if is_space then gap else byte v) ∷ [])
        (λ more. ((if is_space then no_space more else true) && true) ≡ true) tt a b
    go true space = absurd (no_gap (space refl))
    go false space = piece_read (λ (u : Unit {0}). byte v) (λ (u : Unit {0}) (text : Text). text ≡ v ∷ []) AnyText
        (λ more. true ≡ true) tt tt tt read (stays b) (λ front spelled. spelled) (λ z front spelled. (tt, spelled, λ e. refl))
        (λ sound front spelled. refl) (λ sound right. refl) (λ more rest spaces end tail spelled are line_end. tt)

spaces_append : (s t : Text) → AreSpaces s → AreSpaces t → AreSpaces (s ++ t)
spaces_append [] t none are = are
spaces_append (x ∷ s) t (here, more) are = (here, spaces_append s t more are)

-- what follows a gap
gap_goes : {a b : Place} → ReadsGap a b → (more : List Piece) → NoSpace more → Goes (gap ∷ more) a → Goes more b
gap_goes {a} {b} read more tail goes =
    let (first, rest, e, spelled, others) = goes.spelled in
    let all : a.rest ≡ first ++ (rest ++ (goes.spaces ++ goes.end)) =
    goes.is ∙ ap (λ l. l ++ (goes.spaces ++ goes.end)) e ∙ append_assoc first rest (goes.spaces ++ goes.end) in
    go rest first others all spelled
  where
    go : (rest first : Text) → Spells loose more rest → a.rest ≡ first ++ (rest ++ (goes.spaces ++ goes.end)) → (0 < length first) × AreSpaces first
        → Goes more b
    go [] first others all (some, are) =
        let long : length (first ++ goes.spaces) ≡ length first + length goes.spaces = length-append first goes.spaces in
        let enough : 0 < length (first ++ goes.spaces) = omega (arith, some, long) in
        let (same, left, kept) = read.takes tt (first ++ goes.spaces) goes.end goes.sound (all ∙ sym (append_assoc first goes.spaces goes.end))
        (enough, spaces_append first goes.spaces are goes.are) (end_avoids goes.end goes.line_end) in
        record { sound = kept; front = []; spaces = []; end = goes.end; is = left; spelled = others; are = tt; line_end = goes.line_end }
    go (x ∷ rest) first others all spelled =
        let avoids : Avoids IsSpace (x ∷ (rest ++ (goes.spaces ++ goes.end))) = λ y after is here.
        let same : x ≡ y = cc in no_space_spelled more tail (x ∷ rest) others x rest refl (same ∙ here) in
        let (same, left, kept) = read.takes tt first (x ∷ (rest ++ (goes.spaces ++ goes.end))) goes.sound all spelled avoids in
        record {
          sound = kept;
          front = x ∷ rest;
          spaces = goes.spaces;
          end = goes.end;
          is = left;
          spelled = others;
          are = goes.are;
          line_end = goes.line_end;
        }

gap_passes : {a b : Place} → ReadsGap a b → IsSound b → Passes (gap ∷ []) a b
gap_passes {a} {b} read sound =
    let t = read.passes sound in
    let long = longer t.front b.rest a.rest t.is in
    let one : PassesOne gap a b = record {
      front = t.front;
      is = t.is;
      spelled = t.spelled;
      line = read.moves.line;
      column = omega (arith, long, read.moves.column);
      error = t.error;
    } in
    (b, one, refl)

-- a space of words
pub gap_word : (v : ℕ) {a b : Place} → v ≡ 32 → ReadsGap a b → ReadsWords (v ∷ []) a b
gap_word v {a} {b} is read =
    let space : ReadsWords (32 ∷ []) a b = record {
      value = tt;
      moves = read.moves;
      passes = λ sound. gap_passes read sound;
      same = λ right. refl;
      takes = λ x more tail goes. (refl, gap_goes read more (both_true (no_space more) true tail).0 goes);
    } in
    subst (λ (w : ℕ). ReadsWords (w ∷ []) a b) (sym is) space

pub passes_then : (xs ys : List Piece) (a b c : Place) → Passes xs a b → Passes ys b c → Passes (xs ++ ys) a c
passes_then [] ys a b c same q = subst (λ (p : Place). Passes ys p c) (sym same) q
passes_then (x ∷ xs) ys a b c (next, one, more) q = (next, one, passes_then xs ys next b c more q)

pub both_hold : {a b : Bool} → a ≡ true → b ≡ true → (a && b) ≡ true
both_hold {a} {b} e f = ap (λ c. c && b) e ∙ f

words_before : (text : Text) (b : ℕ) (more : List Piece) → words (text ++ b ∷ []) ++ more ≡ words text ++ (word_piece b ∷ more)
words_before text b more = ap (λ l. l ++ more) (map-append word_piece text (b ∷ [])) ∙ append_assoc (words text) (word_piece b ∷ []) more

follows_more : (text : Text) (b : ℕ) (more : List Piece) → Follows (text ++ b ∷ []) more
    → Follows text (word_piece b ∷ more) × Follows (b ∷ []) more
follows_more [] b more h = (refl, h)
follows_more (x ∷ text) b more h =
    let (here, later) = both_true (if x == 32 then no_space (words (text ++ b ∷ []) ++ more) else true) (follows (text ++ b ∷ []) more) h in
    let (front, last) = follows_more text b more later in
    let first : (if x == 32 then no_space (words text ++ (word_piece b ∷ more)) else true) ≡ true =
    subst (λ (l : List Piece). (if x == 32 then no_space l else true) ≡ true) (words_before text b more) here in
    (both_hold first front, last)

words_joined : (text : Text) (b : ℕ) {a c d : Place} → ReadsWords text a c → ReadsWords (b ∷ []) c d → ReadsWords (text ++ b ∷ []) a d
words_joined text b {a} {c} {d} p q = record {
  value = tt;
  moves = moves_then p.moves q.moves;
  passes = λ sound. subst (λ (l : List Piece). Passes l a d) (sym (map-append word_piece text (b ∷ [])))
      (passes_then (words text) (words (b ∷ [])) a c d (p.passes (q.moves.sound sound)) (q.passes sound));
  same = λ right. refl;
  takes = λ x more tail goes.
      let (front, last) = follows_more text b more tail in
      let on = subst (λ (l : List Piece). Goes l a) (words_before text b more) goes in
      q.takes tt more last (p.takes tt (word_piece b ∷ more) front on).1;
}

-- one byte more of a text of words
pub words_more : (text : Text) (i b : ℕ) {a c d : Place} → i < length text → b ≡ get_or text i 0 → ReadsWords (take i text) a c
    → ReadsWords (b ∷ []) c d → ReadsWords (take (i + 1) text) a d
words_more text i b {a} {c} {d} small same before here =
    subst (λ (t : Text). ReadsWords t a d) (ap (λ w. take i text ++ w ∷ []) same ∙ sym (take_more text i 0 small))
    (words_joined (take i text) b before here)

-- all bytes of a text of words
pub whole_words : (text : Text) (i : ℕ) {a b : Place} → length text ≤ i → ReadsWords (take i text) a b → ReadsWords text a b
whole_words text i {a} {b} ended read = subst (λ (t : Text). ReadsWords t a b) (take_all i text ended) read

word_some : (b : ℕ) (front : Text) → SpellsPiece loose (word_piece b) front → 1 ≤ length front
word_some b front spelled = go (b == 32) spelled
  where
    go : (is_space : Bool) → SpellsPiece loose (if is_space then gap else byte b) front → 1 ≤ length front
    go true (some, are) = omega (arith, some)
    go false is = let one : length front ≡ 1 = ap length is in omega (arith, one)

words_passed : (text : Text) (a b : Place) → Passes (words text) a b → length b.rest + length text ≤ length a.rest
words_passed [] a b same = let e : length a.rest ≡ length b.rest = ap (λ (p : Place). length p.rest) same in omega (arith, e)
words_passed (x ∷ text) a b (next, one, more) =
    let some = word_some x one.front one.spelled in
    let long = longer one.front next.rest a.rest one.is in
    let left = words_passed text next b more in
    omega (arith, some, long, left)

pub words_shorter : (text : Text) {a b : Place} → ReadsWords text a b → IsSound b → length b.rest + length text ≤ length a.rest
words_shorter text {a} {b} read sound = words_passed text a b (read.passes sound)

-- ---- exactly

exact_piece : (piece : Piece) (front : Text) → SpellsPiece loose piece front → piece_error piece front ≡ None → SpellsPiece exact piece front
exact_piece (byte v) front spelled none = spelled
exact_piece gap front spelled none = spelled
exact_piece (figure most n) front spelled none = spelled
exact_piece (position n) front spelled none = (spelled, stated_right MOST_POSITION n Position front none)
exact_piece (count n) front spelled none = (spelled, stated_right MOST_NUMBER n Count front none)
exact_piece (name bytes) front spelled none = spelled
exact_piece (digits bytes) front spelled none = spelled
exact_piece (expression tokens) front spelled none = spelled
exact_piece (block opened) front spelled none = spelled

pub exact_passed : (pieces : List Piece) (a b : Place) → Passes pieces a b → IsRight b → ReadsRight pieces a b
exact_passed [] a b same right = record {
  right = ap (λ (p : Place). p.error) same ∙ right;
  front = [];
  is = ap (λ (p : Place). p.rest) same;
  spelled = refl;
}
exact_passed (piece ∷ pieces) a b (next, one, more) right =
    let later = exact_passed pieces next b more right in
    let (before, none) = noted_right a.error a.column (piece_error piece one.front) (sym one.error ∙ later.right) in
    record {
      right = before;
      front = one.front ++ later.front;
      is = one.is ∙ ap (λ l. one.front ++ l) later.is ∙ sym (append_assoc one.front later.front b.rest);
      spelled = (one.front, later.front, refl, exact_piece piece one.front one.spelled none, later.spelled);
    }

-- Where the line has no error, what is stated is what is returned, and its pieces are read.
pub reads_exactly : {X : Type 0} {pieces_of : X → List Piece} {Tail : List Piece → Type 0} {result : X} {a b : Place}
    → ReadsLoosely pieces_of Tail result a b → Reads (pieces_of result) a b
reads_exactly {X} {pieces_of} {Tail} {result} {a} {b} p = record {
  read = λ right. subst (λ (x : X). ReadsRight (pieces_of x) a b) (sym (p.same right))
      (exact_passed (pieces_of p.value) a b (p.passes (right_is_sound b right)) right);
}

-- ---- one reader and another

-- one value and another
pub then_read : {X Y : Type 0} {f : X → List Piece} {g : Y → List Piece} {P Q : List Piece → Type 0} {x : X} {y : Y} {a b c : Place}
    → ReadsLoosely f P x a b → ((z : Y) (more : List Piece) → Q more → P (g z ++ more)) → ReadsLoosely g Q y b c
    → ReadsLoosely (λ (z : X × Y). f z.0 ++ g z.1) Q (x, y) a c
then_read {X} {Y} {f} {g} {P} {Q} {x} {y} {a} {b} {c} p tails q = record {
  value = (p.value, q.value);
  moves = moves_then p.moves q.moves;
  passes = λ sound. passes_then (f p.value) (g q.value) a b c (p.passes (q.moves.sound sound)) (q.passes sound);
  same = λ right. pair (p.same (q.moves.right right)) (q.same right);
  takes = λ z more tail goes.
      let on = subst (λ (l : List Piece). Goes l a) (append_assoc (f z.0) (g z.1) more) goes in
      let (first, later) = p.takes z.0 (g z.1 ++ more) (tails z.1 more tail) on in
      let (second, last) = q.takes z.1 more tail later in
      (pair first second, last);
}
  where
    pair : {p q : X × Y} → p.0 ≡ q.0 → p.1 ≡ q.1 → p ≡ q
    pair e f = λ i. (e i, f i)
