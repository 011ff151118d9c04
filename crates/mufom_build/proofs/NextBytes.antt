-- What comes next on a line after any spaces, and parts of a line that may be absent.
use Rattle.std.proofs.Common.{◌≡◌, ℕ, ◌==◌, ◌&&◌, Bool, true, false, List, [], ◌∷◌, ◌++◌, Option, Some, None, IsTrue, eqb-true}
use Rattle.std.proofs.Common.{refl, sym, ap, subst, ◌∙◌, inl, inr, append_assoc, arith}
use Rattle.std.specs.Bool.{OnTrue}
use Rattle.std.specs.Char.{is_ascii_digit}
use Rattle.std.proofs.lemmas.Str.Parse.{digit_from_value}
use Rattle.hex.specs.Hex.{hex_digit_value}
use Rattle.mufom_text.specs.Words.{Text}
use Rattle.mufom_build_text.specs.Loosely.{Avoids, IsSpace, IsFigure, IsHex, IsAfterGap, Goes, Passes, Nothing}
use Rattle.mufom_build_text.specs.Pieces.{Piece, byte, gap, figure, digits, AreSpaces}
use Rattle.mufom_build_text.specs.Reads.{Place, IsLineEnd}
use Rattle.mufom_build_text.proofs.FirstBytes.{no, one_run, numeral_first, end_avoids}
use Rattle.mufom_build_text.proofs.Loosely.{moves_nowhere}
use Rattle.mufom_build_text.proofs.Noted.{le_yes}
use Rattle.mufom_build.specs.ReadKinds.{IsAhead, HasFigureAhead, HasEndAhead, ReadsFew}

pub differs : (b d : ℕ) → (b == d) ≡ false → b ≡ d → ⊥
differs b d test same = let h : (d == d) ≡ false = subst (λ (x : ℕ). (x == d) ≡ false) same test in grind arith

-- ---- one thing comes next

byte_avoids : (b : ℕ) (more : Text) → (b ≡ 32 → ⊥) → Avoids IsSpace (b ∷ more)
byte_avoids b more no_space y others is here = let same : b ≡ y = cc in no_space (same ∙ here)

-- one byte comes next
pub one_ahead : {b d : ℕ} {text : Text} → (b ≡ 32 → ⊥) → (d ≡ 32 → ⊥) → IsAhead b text → IsAhead d text → b ≡ d
one_ahead {b} {d} {text} left right p q =
    let (same, rest) = one_run IsSpace p.spaces q.spaces (b ∷ p.after) (d ∷ q.after) p.are q.are (sym p.is ∙ q.is) (byte_avoids b p.after left)
    (byte_avoids d q.after right) in
    cc

-- or the line ends
pub ended_ahead : {b : ℕ} {text : Text} → (b ≡ 32 → ⊥) → (b ≡ 10 → ⊥) → IsAhead b text → HasEndAhead text → ⊥
ended_ahead {b} {text} no_space no_feed p q =
    let (same, rest) = one_run IsSpace p.spaces q.spaces (b ∷ p.after) q.end p.are q.are (sym p.is ∙ q.is) (byte_avoids b p.after no_space)
    (end_avoids q.end q.line_end) in
    by_end q.line_end rest
  where
    by_end : IsLineEnd q.end → b ∷ p.after ≡ q.end → ⊥
    by_end (inl none) e = let h : b ∷ p.after ≡ [] = e ∙ none in cc
    by_end (inr (more, feed)) e = let h : b ∷ p.after ≡ 10 ∷ more = e ∙ feed in no_feed cc

-- ---- what is told of the byte after a gap

first_ahead : (b : ℕ) {text : Text} → IsAfterGap (Some b) text → IsAhead b text
first_ahead b told = let (more, e) = told.first in
    record { spaces = told.spaces.front; after = more; is = told.spaces.is ∙ ap (λ l. told.spaces.front ++ l) e; are = told.spaces.spaces }

first_no_space : (b : ℕ) {text : Text} → IsAfterGap (Some b) text → b ≡ 32 → ⊥
first_no_space b told is = let (more, e) = told.first in told.last b more e is

-- where a byte that is no space comes next, it is told
pub told_ahead : (o : Option ℕ) (b : ℕ) {text : Text} → (b ≡ 32 → ⊥) → IsAfterGap o text → IsAhead b text → o ≡ Some b
told_ahead None b {text} no_space told ahead =
    let (same, rest) = one_run IsSpace ahead.spaces told.spaces.front (b ∷ ahead.after) told.end ahead.are told.spaces.spaces
    (sym ahead.is ∙ told.spaces.is) (byte_avoids b ahead.after no_space) told.last in
    absurd (let h : b ∷ ahead.after ≡ [] = rest ∙ told.first in cc)
told_ahead (Some d) b {text} no_space told ahead = ap Some (one_ahead (first_no_space d told) no_space (first_ahead d told) ahead)

-- the end of the line is told by no byte or by a feed
pub none_ended : {text : Text} → IsAfterGap None text → HasEndAhead text
none_ended told = record {
  spaces = told.spaces.front;
  end = told.end;
  is = told.spaces.is;
  are = told.spaces.spaces;
  line_end = inl told.first;
}

pub feed_ended : {text : Text} → IsAfterGap (Some 10) text → HasEndAhead text
feed_ended told = record {
  spaces = told.spaces.front;
  end = told.end;
  is = told.spaces.is;
  are = told.spaces.spaces;
  line_end = inr told.first;
}

figure_no_space : (b : ℕ) → IsFigure b → b ≡ 32 → ⊥
figure_no_space b small e = let h : IsFigure 32 = subst IsFigure e small in omega (arith, h)

figure_no_feed : (b : ℕ) → IsFigure b → b ≡ 10 → ⊥
figure_no_feed b small e = let h : IsFigure 10 = subst IsFigure e small in omega (arith, h)

pub figure_told : (b : ℕ) {text : Text} → IsAfterGap (Some b) text → HasFigureAhead text → IsFigure b
figure_told b told f = subst IsFigure (one_ahead (figure_no_space f.byte f.figure) (first_no_space b told) f.ahead (first_ahead b told)) f.figure

pub no_figure_told : {text : Text} → IsAfterGap None text → HasFigureAhead text → ⊥
no_figure_told told f = ended_ahead (figure_no_space f.byte f.figure) (figure_no_feed f.byte f.figure) f.ahead (none_ended told)

-- ---- what the tests of the byte after a gap tell

pub none_is_byte : (b : ℕ) {text : Text} → (b ≡ 32 → ⊥) → IsAfterGap None text
    → (IsTrue false → IsAhead b text) × (IsAhead b text → IsTrue false)
none_is_byte b no_space told =
    (λ e. absurd (no e), λ ahead. absurd (let h : None ≡ Some b = told_ahead None b no_space told ahead in cc))

pub some_is_byte : (d b : ℕ) {text : Text} → (b ≡ 32 → ⊥) → IsAfterGap (Some d) text
    → (IsTrue (d == b) → IsAhead b text) × (IsAhead b text → IsTrue (d == b))
some_is_byte d b {text} no_space told = (
  λ e. subst (λ (x : ℕ). IsAhead x text) (eqb-true d b e) (first_ahead d told),
  λ ahead. same_byte (let h : Some d ≡ Some b = told_ahead (Some d) b no_space told ahead in cc),
)
  where
    same_byte : d ≡ b → (d == b) ≡ true
    same_byte e = grind arith

pub none_is_figure : {text : Text} → IsAfterGap None text → (IsTrue false → HasFigureAhead text) × (HasFigureAhead text → IsTrue false)
none_is_figure told = (λ e. absurd (no e), λ f. absurd (no_figure_told told f))

both_hold : {a b : Bool} → a ≡ true → b ≡ true → (a && b) ≡ true
both_hold {a} {b} e f = ap (λ c. c && b) e ∙ f

digit_test : (b : ℕ) → IsFigure b → is_ascii_digit b ≡ true
digit_test b small = let range = digit_from_value b small in both_hold (le_yes 48 b range.0) (le_yes b 57 range.1)

on_true : (test : Bool) {P : Type 0} → OnTrue test P → test ≡ true → P
on_true true p e = p
on_true false p e = absurd (no e)

pub some_is_figure : (test : Bool) (b : ℕ) {text : Text} → IsAfterGap (Some b) text → test ≡ is_ascii_digit b → OnTrue test (IsFigure b)
    → (IsTrue test → HasFigureAhead text) × (HasFigureAhead text → IsTrue test)
some_is_figure test b told is small = (
  λ e. record { byte = b; figure = on_true test small e; ahead = first_ahead b told },
  λ f. is ∙ digit_test b (figure_told b told f),
)

pub some_is_end : (b : ℕ) {text : Text} → IsAfterGap (Some b) text → (IsTrue (b == 10) → HasEndAhead text) × (HasEndAhead text → IsTrue (b == 10))
some_is_end b {text} told =
    (λ e. feed_ended (subst (λ (x : ℕ). IsAfterGap (Some x) text) (eqb-true b 10 e) told), λ ended. by_test (b == 10) refl ended)
  where
    by_test : (t : Bool) → (b == 10) ≡ t → HasEndAhead text → t ≡ true
    by_test true e ended = refl
    by_test false e ended = absurd (ended_ahead (first_no_space b told) (differs b 10 e) (first_ahead b told) ended)

-- ---- what comes next, where the pieces of the line are known

-- what comes after a space, by its first byte
ahead_of : {b : ℕ} {tail : Text} (text front first rest begin more after : Text) → text ≡ front ++ after → front ≡ first ++ rest
    → rest ≡ begin ++ more → begin ≡ b ∷ tail → AreSpaces first → IsAhead b text
ahead_of {b} {tail} text front first rest begin more after is e f g are = record {
  spaces = first;
  after = tail ++ (more ++ after);
  is = is ∙ ap (λ l. l ++ after) (e ∙ ap (λ l. first ++ l) (f ∙ ap (λ l. l ++ more) g)) ∙ append_assoc first (b ∷ (tail ++ more)) after
      ∙ ap (λ l. first ++ b ∷ l) (append_assoc tail more after);
  are = are;
}

pub goes_byte : (v : ℕ) (ps : List Piece) {a : Place} → Goes (gap ∷ byte v ∷ ps) a → IsAhead v a.rest
goes_byte v ps {a} goes =
    let (first, rest, e, (some, are), (begin, more, f, g, others)) = goes.spelled in
    ahead_of a.rest goes.front first rest begin more (goes.spaces ++ goes.end) goes.is e f g are

pub goes_figure : (most n : ℕ) (ps : List Piece) {a : Place} → Goes (gap ∷ figure most n ∷ ps) a → HasFigureAhead a.rest
goes_figure most n ps {a} goes =
    let (first, rest, e, (some, are), (begin, more, f, (numeral, value), others)) = goes.spelled in
    let (x, tail, g, small) = numeral_first begin numeral in
    record { byte = x; figure = small; ahead = ahead_of a.rest goes.front first rest begin more (goes.spaces ++ goes.end) goes.is e f g are }

hex_no_space : (b : ℕ) → IsHex b → b ≡ 32 → ⊥
hex_no_space b (n, is) e = let h : hex_digit_value 32 ≡ Some n = ap hex_digit_value (sym e) ∙ is in cc

hex_no_feed : (b : ℕ) → IsHex b → b ≡ 10 → ⊥
hex_no_feed b (n, is) e = let h : hex_digit_value 10 ≡ Some n = ap hex_digit_value (sym e) ∙ is in cc

-- a line does not end before digits
pub goes_digits : (b : ℕ) (bytes : List ℕ) (ps : List Piece) {a : Place} → Goes (gap ∷ digits (b ∷ bytes) ∷ ps) a → HasEndAhead a.rest → ⊥
goes_digits b bytes ps {a} goes ended =
    let (first, rest, e, (some, are), (begin, more, f, (high, low, tail, g, digit, later), others)) = goes.spelled in
    ended_ahead (hex_no_space high (_, digit.0)) (hex_no_feed high (_, digit.0))
    (ahead_of a.rest goes.front first rest begin more (goes.spaces ++ goes.end) goes.is e f g are) ended

pub goes_end : {a : Place} → Goes [] a → HasEndAhead a.rest
goes_end goes = record {
  spaces = goes.spaces;
  end = goes.end;
  is = goes.is ∙ ap (λ l. l ++ (goes.spaces ++ goes.end)) goes.spelled;
  are = goes.are;
  line_end = goes.line_end;
}

-- a line does not end before a byte
pub ended_byte : (v : ℕ) {a : Place} → (v ≡ 32 → ⊥) → (v ≡ 10 → ⊥) → IsAhead v a.rest → Goes [] a → ⊥
ended_byte v no_space no_feed ahead goes = ended_ahead no_space no_feed ahead (goes_end goes)

pub ended_figure : {a : Place} → HasFigureAhead a.rest → Goes [] a → ⊥
ended_figure f goes = ended_ahead (figure_no_space f.byte f.figure) (figure_no_feed f.byte f.figure) f.ahead (goes_end goes)

pub figure_or_byte : (v : ℕ) {text : Text} → (v ≡ 32 → ⊥) → (IsFigure v → ⊥) → IsAhead v text → HasFigureAhead text → ⊥
figure_or_byte v no_space no_figure ahead f =
    no_figure (subst IsFigure (one_ahead (figure_no_space f.byte f.figure) no_space f.ahead ahead) f.figure)

-- ---- the last part of a line, which may be absent

pub absent_read : {X : Type 0} {f : Option X → List Piece} {a : Place} → ((x : X) → Goes (f (Some x) ++ []) a → ⊥) → f None ≡ []
    → ReadsFew f (λ (o : Option X). Unit {0}) Nothing None a a
absent_read {X} {f} {a} none nothing = record {
  value = None;
  moves = moves_nowhere a;
  passes = λ sound. subst (λ (l : List Piece). Passes l a a) (sym nothing) refl;
  few = λ sound. tt;
  same = λ right. refl;
  takes = λ o more few tail goes. by_case o (subst (λ (l : List Piece). Goes (f o ++ l) a) tail goes) more tail;
}
  where
    by_case : (o : Option X) → Goes (f o ++ []) a → (more : List Piece) → more ≡ [] → (o ≡ None) × Goes more a
    by_case None goes more tail = (
      refl,
      subst (λ (l : List Piece). Goes l a) (sym tail) (subst (λ (l : List Piece). Goes (l ++ []) a) nothing goes),
    )
    by_case (Some x) goes more tail = absurd (none x goes)

pub present_read : {X : Type 0} {f : Option X → List Piece} {x : X} {a b : Place} → (Goes [] a → ⊥) → f None ≡ []
    → ReadsFew (λ (z : X). f (Some z)) (λ (z : X). Unit {0}) Nothing x a b → ReadsFew f (λ (o : Option X). Unit {0}) Nothing (Some x) a b
present_read {X} {f} {x} {a} {b} some nothing p = record {
  value = Some p.value;
  moves = p.moves;
  passes = p.passes;
  few = λ sound. tt;
  same = λ right. ap Some (p.same right);
  takes = λ o more few tail goes. by_case o more tail goes;
}
  where
    by_case : (o : Option X) (more : List Piece) → more ≡ [] → Goes (f o ++ more) a → (o ≡ Some p.value) × Goes more b
    by_case None more tail goes = absurd (some (subst (λ (l : List Piece). Goes l a) (ap (λ l. l ++ more) nothing ∙ tail) goes))
    by_case (Some z) more tail goes = let (same, left) = p.takes z more tt tail goes in (ap Some same, left)
