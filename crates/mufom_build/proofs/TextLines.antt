-- The lines of a text, and what lines of pieces spell.
use Rattle.std.proofs.Common.{◌≡◌, ℕ, suc, ◌+◌, ◌<◌, ◌≤◌, ◌==◌, Bool, true, false, max, List, [], ◌∷◌, ◌++◌, length, take, flat_map, refl, sym, ap, subst}
use Rattle.std.proofs.Common.{◌∙◌, inl, inr, ◌⊎◌, append_assoc, append-nil, arith, if◌then◌else◌, length-append}
use Rattle.std.specs.List.{AllByRecursion}
use Rattle.mufom_text.specs.Words.{Text, line}
use Rattle.mufom_build_text.specs.Pieces.{Piece, byte, gap, figure, position, count, name, digits, expression, block, Reading, exact, loose}
use Rattle.mufom_build_text.specs.Pieces.{Spells, SpellsPiece, AreSpaces}
use Rattle.mufom_build_text.specs.Places.{AreBlank, SpellsLines}
use Rattle.mufom_build_text.specs.Reads.{feeds, column_after}
use Rattle.mufom_build_text.specs.Loosely.{Avoids}
use Rattle.mufom_build.specs.Lines.{Line}
use Rattle.mufom_build.specs.Refusals.{text_lines, begun_with}
use Rattle.mufom_build.specs.Begun.{IsPlain}

-- ---- bytes that are no end of a line

abbrev pub NoFeed : ℕ → Type 0
NoFeed b = b ≡ 10 → ⊥

abbrev pub IsDark : ℕ → Type 0
IsDark b = (b ≡ 32) ⊎ (b ≡ 10) → ⊥

no_feed_test : (b : ℕ) → NoFeed b → (b == 10) ≡ false
no_feed_test b h = go (b == 10) refl
  where
    go : (c : Bool) → (b == 10) ≡ c → c ≡ false
    go true e = absurd (h (let same : b ≡ 10 = grind arith in same))
    go false e = refl

pub all_joined : (P : ℕ → Type 0) (s t : Text) → AllByRecursion P s → AllByRecursion P t → AllByRecursion P (s ++ t)
all_joined P [] t a b = b
all_joined P (x ∷ s) t (here, a) b = (here, all_joined P s t a b)

pub all_split : (P : ℕ → Type 0) (s t : Text) → AllByRecursion P (s ++ t) → AllByRecursion P s × AllByRecursion P t
all_split P [] t all = (tt, all)
all_split P (x ∷ s) t (here, all) = let (a, b) = all_split P s t all in ((here, a), b)

pub spaces_plain : (s : Text) → AreSpaces s → IsPlain s
spaces_plain [] spaces = tt
spaces_plain (b ∷ s) (here, spaces) = (λ e. omega (arith, here, e), spaces_plain s spaces)

pub spaces_blank : (s : Text) → AreSpaces s → AreBlank s
spaces_blank [] spaces = tt
spaces_blank (b ∷ s) (here, spaces) = (inl here, spaces_blank s spaces)

pub blank_spaces : (s : Text) → AreBlank s → IsPlain s → AreSpaces s
blank_spaces [] blank plain = tt
blank_spaces (b ∷ s) (inl here, blank) (no_feed, plain) = (here, blank_spaces s blank plain)
blank_spaces (b ∷ s) (inr here, blank) (no_feed, plain) = absurd (no_feed here)

-- a line feed, or the end of the text
abbrev pub EndsHere : Text → Type 0
EndsHere rest = (rest ≡ []) ⊎ ((more : Text) × (rest ≡ 10 ∷ more))

pub end_avoids_plain : (rest : Text) → EndsHere rest → Avoids NoFeed rest
end_avoids_plain rest (inl e) b more is no_feed = let h : [] ≡ b ∷ more = sym e ∙ is in cc
end_avoids_plain rest (inr (others, e)) b more is no_feed =
    let h : 10 ∷ others ≡ b ∷ more = sym e ∙ is in let same : 10 ≡ b = cc in no_feed (sym same)

-- ---- the lines of a text

pub first_line : (x t : Text) → IsPlain x → text_lines (x ++ 10 ∷ t) ≡ x ∷ text_lines t
first_line [] t plain = refl
first_line (b ∷ x) t (here, plain) =
    ap (λ c. if c then [] ∷ text_lines (x ++ 10 ∷ t) else begun_with b (text_lines (x ++ 10 ∷ t))) (no_feed_test b here)
    ∙ ap (λ l. begun_with b l) (first_line x t plain)

-- the line at the end of a text, where it has any bytes
abbrev pub last_text : Text → List Text
last_text [] = []
last_text (b ∷ tail) = (b ∷ tail) ∷ []

pub only_line : (x : Text) → IsPlain x → text_lines x ≡ last_text x
only_line [] plain = refl
only_line (b ∷ x) (here, plain) =
    ap (λ c. if c then [] ∷ text_lines x else begun_with b (text_lines x)) (no_feed_test b here)
    ∙ ap (λ l. begun_with b l) (only_line x plain) ∙ go x
  where
    go : (x : Text) → begun_with b (last_text x) ≡ (b ∷ x) ∷ []
    go [] = refl
    go (c ∷ x) = refl

-- the first of some lines, before a text
pub line_before : (x : Text) (texts : List Text) (t : Text) → flat_map line (x ∷ texts) ++ t ≡ x ++ (10 ∷ (flat_map line texts ++ t))
line_before x texts t = append_assoc (x ++ 10 ∷ []) (flat_map line texts) t ∙ append_assoc x (10 ∷ []) (flat_map line texts ++ t)

pub lines_before : (texts : List Text) (t : Text) → AllByRecursion IsPlain texts → text_lines (flat_map line texts ++ t) ≡ texts ++ text_lines t
lines_before [] t plain = refl
lines_before (x ∷ texts) t (here, plain) = ap text_lines (line_before x texts t) ∙ first_line x (flat_map line texts ++ t) here
    ∙ ap (λ l. x ∷ l) (lines_before texts t plain)

pub whole_line : (x : Text) (texts : List Text) → flat_map line (x ∷ texts) ≡ x ++ (10 ∷ flat_map line texts)
whole_line x texts = append_assoc x (10 ∷ []) (flat_map line texts)

-- the lines of some texts and of others
pub flat_lines : (xs ys : List Text) → flat_map line (xs ++ ys) ≡ flat_map line xs ++ flat_map line ys
flat_lines [] ys = refl
flat_lines (x ∷ xs) ys = ap (λ l. line x ++ l) (flat_lines xs ys) ∙ sym (append_assoc (line x) (flat_map line xs) (flat_map line ys))

-- the column behind some lines, or where the text begins
abbrev pub column_behind : List Text → ℕ → ℕ
column_behind [] column = column
column_behind (x ∷ texts) column = 1

-- A text by its lines that end, and what follows them.
pub record IsCut (text : Text) : Type 0 where
  pub texts : List Text
  pub tail : Text
  pub is : text ≡ flat_map line texts ++ tail
  pub plain : AllByRecursion IsPlain texts
  pub plain_tail : IsPlain tail
  pub feeds_are : feeds text ≡ length texts
  pub column_is : (column : ℕ) → column_after column text ≡ column_behind texts column + length tail

pub cut : (text : Text) → IsCut text
cut [] = record {
  texts = [];
  tail = [];
  is = refl;
  plain = tt;
  plain_tail = tt;
  feeds_are = refl;
  column_is = λ column. let e : column ≡ column + 0 = omega arith in e;
}
cut (b ∷ text) = go (b == 10) refl (cut text)
  where
    one_more : (c : Bool) → (b == 10) ≡ c → feeds (b ∷ text) ≡ (if c then feeds text + 1 else feeds text)
    one_more c e = ap (λ (x : Bool). if x then feeds text + 1 else feeds text) e

    next_column : (c : Bool) (column : ℕ) → (b == 10) ≡ c
        → column_after column (b ∷ text) ≡ (if c then column_after 1 text else column_after (column + 1) text)
    next_column c column e = ap (λ (x : Bool). if x then column_after 1 text else column_after (column + 1) text) e

    one_line : (texts : List Text) → column_behind texts 1 ≡ 1
    one_line [] = refl
    one_line (x ∷ texts) = refl

    joined : (texts : List Text) (tail : Text) → text ≡ flat_map line texts ++ tail → AllByRecursion IsPlain texts → IsPlain tail
        → feeds text ≡ length texts → ((column : ℕ) → column_after column text ≡ column_behind texts column + length tail)
        → (b == 10) ≡ false → IsCut (b ∷ text)
    joined [] tail is plain plain_tail feeds_are column_is e = record {
      texts = [];
      tail = b ∷ tail;
      is = ap (λ l. b ∷ l) is;
      plain = tt;
      plain_tail = (λ same. let h : (10 == 10) ≡ false = subst (λ (x : ℕ). (x == 10) ≡ false) same e in cc, plain_tail);
      feeds_are = one_more false e ∙ feeds_are;
      column_is = λ column. next_column false column e ∙ column_is (column + 1)
          ∙ (let sum : column + 1 + length tail ≡ column + length (b ∷ tail) = omega arith in sum);
    }
    joined (x ∷ texts) tail is (here, plain) plain_tail feeds_are column_is e = record {
      texts = (b ∷ x) ∷ texts;
      tail = tail;
      is = ap (λ l. b ∷ l) is;
      plain = ((λ same. let h : (10 == 10) ≡ false = subst (λ (x : ℕ). (x == 10) ≡ false) same e in cc, here), plain);
      plain_tail = plain_tail;
      feeds_are = one_more false e ∙ feeds_are;
      column_is = λ column. next_column false column e ∙ column_is (column + 1);
    }

    go : (c : Bool) → (b == 10) ≡ c → IsCut text → IsCut (b ∷ text)
    go true e rest = let is_feed : b ≡ 10 = grind arith in record {
      texts = [] ∷ rest.texts;
      tail = rest.tail;
      is = ap (λ x. x ∷ text) is_feed ∙ ap (λ l. 10 ∷ l) rest.is;
      plain = (tt, rest.plain);
      plain_tail = rest.plain_tail;
      feeds_are = one_more true e ∙ (let more : feeds text + 1 ≡ suc (length rest.texts) = omega (arith, rest.feeds_are) in more);
      column_is = λ column. next_column true column e ∙ rest.column_is 1 ∙ ap (λ n. n + length rest.tail) (one_line rest.texts);
    }
    go false e rest = joined rest.texts rest.tail rest.is rest.plain rest.plain_tail rest.feeds_are rest.column_is e

pub cut_lines : (text : Text) (c : IsCut text) → text_lines text ≡ c.texts ++ last_text c.tail
cut_lines text c = ap text_lines c.is ∙ lines_before c.texts c.tail c.plain ∙ ap (λ l. c.texts ++ l) (only_line c.tail c.plain_tail)

-- blank text, up to its first end of a line
pub first_blank : (s : Text) → AreBlank s → AreSpaces s ⊎ ((front : Text) × (back : Text) × (s ≡ front ++ 10 ∷ back) × AreSpaces front × AreBlank back)
first_blank [] blank = inl tt
first_blank (b ∷ s) (inl here, blank) = go (first_blank s blank)
  where
    go : AreSpaces s ⊎ ((front : Text) × (back : Text) × (s ≡ front ++ 10 ∷ back) × AreSpaces front × AreBlank back)
        → AreSpaces (b ∷ s) ⊎ ((front : Text) × (back : Text) × (b ∷ s ≡ front ++ 10 ∷ back) × AreSpaces front × AreBlank back)
    go (inl spaces) = inl (here, spaces)
    go (inr (front, back, is, spaces, more)) = inr (b ∷ front, back, ap (λ l. b ∷ l) is, (here, spaces), more)
first_blank (b ∷ s) (inr here, blank) = inr ([], s, ap (λ x. x ∷ s) here, tt, blank)

-- ---- lines of pieces

pub loose_piece : (piece : Piece) (text : Text) → SpellsPiece exact piece text → SpellsPiece loose piece text
loose_piece (byte value) text h = h
loose_piece gap text h = h
loose_piece (figure most value) text h = h
loose_piece (position value) text h = h.0
loose_piece (count value) text h = h.0
loose_piece (name bytes) text h = h
loose_piece (digits bytes) text h = h
loose_piece (expression tokens) text h = h
loose_piece (block opened) text h = h

-- what is read exactly is read loosely too
pub loose_pieces : (pieces : List Piece) (text : Text) → Spells exact pieces text → Spells loose pieces text
loose_pieces [] text h = h
loose_pieces (piece ∷ pieces) text (first, rest, is, spelled, more) =
    (first, rest, is, loose_piece piece first spelled, loose_pieces pieces rest more)

pub loosely : (reading : Reading) (pieces : List Piece) (text : Text) → Spells reading pieces text → Spells loose pieces text
loosely exact pieces text h = loose_pieces pieces text h
loosely loose pieces text h = h

-- blank lines before lines
pub blank_first : (reading : Reading) (lines : List Line) (front text : Text) → AreBlank front → SpellsLines reading lines text
    → SpellsLines reading lines (front ++ text)
blank_first reading [] front text blank spelled = all_joined (λ b. (b ≡ 32) ⊎ (b ≡ 10)) front text blank spelled
blank_first reading (pieces ∷ lines) front text blank (before, body, after, rest, is, leading, spelled, trailing, more) = (
  front ++ before,
  body,
  after,
  rest,
  ap (λ l. front ++ l) is ∙ sym (append_assoc front before (body ++ (after ++ rest))),
  all_joined (λ b. (b ≡ 32) ⊎ (b ≡ 10)) front before blank leading,
  spelled,
  trailing,
  more,
)

-- the last line may be ended
pub line_ended : (reading : Reading) (lines : List Line) (text : Text) → SpellsLines reading lines text → SpellsLines reading lines (text ++ 10 ∷ [])
line_ended reading [] text blank = all_joined (λ b. (b ≡ 32) ⊎ (b ≡ 10)) text (10 ∷ []) blank (inr refl, tt)
line_ended reading (pieces ∷ lines) text (before, body, after, rest, is, leading, spelled, trailing, end) = (
  before,
  body,
  after,
  rest ++ 10 ∷ [],
  ap (λ l. l ++ 10 ∷ []) is ∙ append_assoc before (body ++ (after ++ rest)) (10 ∷ [])
      ∙ ap (λ l. before ++ l) (append_assoc body (after ++ rest) (10 ∷ []) ∙ ap (λ l. body ++ l) (append_assoc after rest (10 ∷ []))),
  leading,
  spelled,
  trailing,
  go end (λ more others. line_ended reading lines more others),
)
  where
    go : ((rest ≡ []) × (lines ≡ [])) ⊎ ((more : Text) × (rest ≡ 10 ∷ more) × SpellsLines reading lines more)
        → ((more : Text) → SpellsLines reading lines more → SpellsLines reading lines (more ++ 10 ∷ []))
        → ((rest ++ 10 ∷ [] ≡ []) × (lines ≡ [])) ⊎ ((more : Text) × (rest ++ 10 ∷ [] ≡ 10 ∷ more) × SpellsLines reading lines more)
    go (inl (e, none)) ended =
        inr ([], ap (λ l. l ++ 10 ∷ []) e, subst (λ (l : List Line). SpellsLines reading l []) (sym none) tt)
    go (inr (more, e, others)) ended = inr (more ++ 10 ∷ [], ap (λ l. l ++ 10 ∷ []) e, ended more others)
