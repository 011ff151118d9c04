-- What is read between two places of a text, joined piece by piece and line by line.
use Rattle.std.proofs.Common.{◌≡◌, ℕ, ◌+◌, ◌<◌, ◌≤◌, ◌^◌, List, [], ◌∷◌, ◌++◌, length, take, Option, Some}
use Rattle.std.proofs.Common.{refl, sym, ap, subst, ◌∙◌, inl, inr, ◌⊎◌, arith, append_assoc, append-nil, get_or, MatchOption}
use Rattle.std.proofs.lemmas.List.{take_more, map-append}
use Rattle.std.specs.Str.Parse.{digits_value}
use Rattle.mufom_text.specs.Words.{Text}
use Rattle.mufom_build_text.specs.Pieces.{Piece, byte, gap, figure, name, block, exact}
use Rattle.mufom_build_text.specs.Pieces.{Spells, SpellsPiece, SpellsNumber}
use Rattle.mufom_build_text.specs.Pieces.{words, word_piece}
use Rattle.mufom_build_text.specs.Places.{SpellsLines, AreBlank}
use Rattle.mufom_build_text.specs.Reads.{Place, IsRight, IsSpaceFront, IsBlankFront, ReadsRight, Reads, ReadsNumeral, IsNameFront}
use Rattle.mufom_build_text.specs.Reads.{IsLineEnd, EndsLine}
use Rattle.mufom_build_text.specs.Reads.{Follow, ReadsLines}
use Rattle.mufom_build_text.proofs.Spelling.{spells-append, spells-one}

-- ---- pieces

-- pieces and further pieces
infixl 10 ◌▸◌
pub ◌▸◌ : {xs ys : List Piece} {a b c : Place} → Reads xs a b → Reads ys b c → Reads (xs ++ ys) a c
◌▸◌ {xs} {ys} {a} {b} {c} p q = record {
  read = λ right. let second = q.read right in let first = p.read second.right in record {
    right = first.right;
    front = first.front ++ second.front;
    is = first.is ∙ ap (λ l. first.front ++ l) second.is ∙ sym (append_assoc first.front second.front c.rest);
    spelled = spells-append exact xs ys first.front second.front first.spelled second.spelled;
  };
}

-- the bytes of one byte
only_byte : (v : ℕ) (text : Text) → Spells exact (byte v ∷ []) text → text ≡ v ∷ []
only_byte v text (first, rest, is, spelled, none) = is ∙ ap (λ l. first ++ l) none ∙ append-nil first ∙ spelled

pub nothing : (a : Place) → Reads [] a a
nothing a = record { read = λ right. record { right = right; front = []; is = refl; spelled = refl } }

pub reads_one : (piece : Piece) (a b : Place) (front : Text) → b.error ≡ a.error → a.rest ≡ front ++ b.rest → SpellsPiece exact piece front
    → Reads (piece ∷ []) a b
reads_one piece a b front error is spelled = record {
  read = λ right. record {
    right = sym error ∙ right;
    front = front;
    is = is;
    spelled = spells-one exact piece front spelled;
  };
}

-- a space, and any more
pub reads_gap : (a b c : Place) → Reads (byte 32 ∷ []) a b → IsSpaceFront b.rest c.rest → c.error ≡ b.error → Reads (gap ∷ []) a c
reads_gap a b c first spaces error = record {
  read = λ right.
      let one = first.read (sym error ∙ right) in
      let is_space : one.front ≡ 32 ∷ [] = only_byte 32 one.front one.spelled in
      let some : 0 < length (32 ∷ spaces.front) = omega arith in
      record {
        right = one.right;
        front = 32 ∷ spaces.front;
        is = one.is ∙ ap (λ l. l ++ b.rest) is_space ∙ ap (λ l. 32 ∷ l) spaces.is;
        spelled = spells-one exact gap (32 ∷ spaces.front) (some, (refl, spaces.spaces));
      };
}

-- a name in quotes
pub reads_name : (bytes inside after : List ℕ) (a b c : Place) → Reads (byte 0x22 ∷ []) a b → IsNameFront bytes inside (0x22 ∷ after)
    → inside ≡ b.rest → c.rest ≡ after → c.error ≡ b.error → Reads (name bytes ∷ []) a c
reads_name bytes inside after a b c first f begins ends error = record {
  read = λ right.
      let one = first.read (sym error ∙ right) in
      let is_quote : one.front ≡ 0x22 ∷ [] = only_byte 0x22 one.front one.spelled in
      let rest : b.rest ≡ (f.front ++ 0x22 ∷ []) ++ c.rest =
      sym begins ∙ f.is ∙ ap (λ l. f.front ++ 0x22 ∷ l) (sym ends) ∙ sym (append_assoc f.front (0x22 ∷ []) c.rest) in
      record {
        right = one.right;
        front = 0x22 ∷ (f.front ++ 0x22 ∷ []);
        is = one.is ∙ ap (λ l. l ++ b.rest) is_quote ∙ ap (λ l. 0x22 ∷ l) rest;
        spelled = spells-one exact (name bytes) (0x22 ∷ (f.front ++ 0x22 ∷ [])) (f.front, refl, f.spelled);
      };
}

-- a piece that no bytes spell, and after which the line may be wrong
pub reads_judged : (piece : Piece) (a b : Place) → ((text : Text) → text ≡ [] → SpellsPiece exact piece text) → b.rest ≡ a.rest
    → (IsRight b → IsRight a) → Reads (piece ∷ []) a b
reads_judged piece a b empty rest judged = record {
  read = λ right. record {
    right = judged right;
    front = [];
    is = sym rest;
    spelled = spells-one exact piece [] (empty [] refl);
  };
}

-- where the line is wrong, anything is read
pub reads_wrong : (pieces : List Piece) (a b : Place) → (IsRight b → ⊥) → Reads pieces a b
reads_wrong pieces a b wrong = record { read = λ right. absurd (wrong right) }

-- ---- words

pub words_more : (text : Text) (i : ℕ) → i < length text → words (take (i + 1) text) ≡ words (take i text) ++ word_piece (get_or text i 0) ∷ []
words_more text i small = ap words (take_more text i 0 small) ∙ map-append word_piece (take i text) (get_or text i 0 ∷ [])

pub words_read : (text : Text) (i wanted : ℕ) (a b c : Place) → i < length text → wanted ≡ get_or text i 0 → Reads (words (take i text)) a b
    → Reads (word_piece wanted ∷ []) b c → Reads (words (take (i + 1) text)) a c
words_read text i wanted a b c small same before here =
    subst (λ (l : List Piece). Reads l a c) (ap (λ w. words (take i text) ++ word_piece w ∷ []) same ∙ sym (words_more text i small)) (before ▸ here)

-- ---- numbers

pub reads_number : (most n : ℕ) (a b : Place) → ReadsNumeral (Some n) a b → Reads (figure most n ∷ []) a b
reads_number most n a b read = reads_one (figure most n) a b read.front read.error read.is (read.numeral, read.value_is)

-- a stated number that is the right one, or noted to be wrong
pub reads_stated : (stated : Option ℕ) (right : ℕ) (a b c : Place) → ReadsNumeral stated a b → c.rest ≡ b.rest
    → (IsRight c → IsRight b × (stated ≡ Some right)) → (piece : Piece) → ((text : Text) → SpellsNumber right text → SpellsPiece exact piece text)
    → Reads (piece ∷ []) a c
reads_stated stated right a b c read rest judged piece spells = record {
  read = λ is_right.
      let (was, same) = judged is_right in
      let P : Option ℕ → Type 0 = λ o. MatchOption o (2 ^ 64 ≤ digits_value 10 read.front) (λ n. digits_value 10 read.front ≡ n) in
      let value : digits_value 10 read.front ≡ right = subst P same read.value_is in
      record {
        right = sym read.error ∙ was;
        front = read.front;
        is = read.is ∙ ap (λ l. read.front ++ l) (sym rest);
        spelled = spells-one exact piece read.front (spells read.front (read.numeral, value));
      };
}

-- ---- lines

-- no line of these pieces is empty
abbrev pub IsSolid : List Piece → Type 0
IsSolid pieces = (text : Text) → Spells exact pieces text → text ≡ [] → ⊥

pub solid : (v : ℕ) (pieces : List Piece) → IsSolid (byte v ∷ pieces)
solid v pieces text (first, rest, is, spelled, more) empty = let e : v ∷ rest ≡ [] = ap (λ l. l ++ rest) (sym spelled) ∙ sym is ∙ empty in cc

pub block_solid : (opened v : ℕ) (pieces : List Piece) → IsSolid (block opened ∷ byte v ∷ pieces)
block_solid opened v pieces text (first, rest, is, spelled, more) empty =
    let same : rest ≡ [] = ap (λ l. l ++ rest) (sym spelled) ∙ sym is ∙ empty in
    solid v pieces rest more same

no_front : (s t : Text) → s ++ t ≡ [] → s ≡ []
no_front [] t e = refl
no_front (x ∷ s) t e = cc

pub no_rest : (s t : Text) → s ++ t ≡ [] → t ≡ []
no_rest [] t e = e
no_rest (x ∷ s) t e = cc

blank-append : (s t : Text) → AreBlank s → AreBlank t → AreBlank (s ++ t)
blank-append [] t none blank = blank
blank-append (b ∷ s) t (here, more) blank = (here, blank-append s t more blank)

-- blank lines before lines
pub blank_before : (lines : List (List Piece)) (front text : Text) → AreBlank front → SpellsLines exact lines text
    → SpellsLines exact lines (front ++ text)
blank_before [] front text blank spelled = blank-append front text blank spelled
blank_before (pieces ∷ lines) front text blank (before, body, after, rest, is, leading, spelled, trailing, more) = (
  front ++ before,
  body,
  after,
  rest,
  ap (λ l. front ++ l) is ∙ sym (append_assoc front before (body ++ (after ++ rest))),
  blank-append front before blank leading,
  spelled,
  trailing,
  more,
)

-- what follows the end of a line
following : (more : List (List Piece)) (end rest : Text) → IsLineEnd end → IsBlankFront end rest
    → ((after : Text) → rest ≡ 10 ∷ after → ⊥) → Follow more rest
    → ((end ≡ []) × (more ≡ [])) ⊎ ((after : Text) × (end ≡ 10 ∷ after) × SpellsLines exact more after)
following more end rest (inl e) blank last follow = inl (e, follow.some (no_rest blank.front rest (sym blank.is ∙ e)))
following more end rest (inr (after, e)) blank last follow = inr (after, e, after_feed blank.front blank.blank (sym blank.is ∙ e))
  where
    after_feed : (front : Text) → AreBlank front → front ++ rest ≡ 10 ∷ after → SpellsLines exact more after
    after_feed [] none is = absurd (last after is)
    after_feed (b ∷ front) (first, others) is =
        let same : front ++ rest ≡ after = cc in
        subst (λ (l : Text). SpellsLines exact more l) same (blank_before more front rest others follow.spelled)

-- a line that is not empty, and its end
line_from : {pieces : List Piece} {a b : Place} {rest : Text} → (a.rest ≡ [] → ⊥) → ReadsRight pieces a b → EndsLine b.rest rest
    → ReadsLines (pieces ∷ []) a.rest rest
line_from {pieces} {a} {b} {rest} some line ends = record {
  followed = λ more follow. record {
    spelled = (
      [],
      line.front,
      ends.spaces.front,
      ends.end,
      line.is ∙ ap (λ l. line.front ++ l) ends.spaces.is,
      tt,
      line.spelled,
      ends.spaces.spaces,
      following more ends.end rest ends.line_end ends.blank ends.last follow,
    );
    some = λ empty. absurd (some empty);
  };
}

pub line_read : {pieces : List Piece} {a b : Place} {rest : Text} → IsSolid pieces → Reads pieces a b → IsRight b → EndsLine b.rest rest
    → ReadsLines (pieces ∷ []) a.rest rest
line_read {pieces} {a} {b} {rest} some read right ends = let line = read.read right in
    line_from (λ empty. some line.front line.spelled (no_front line.front b.rest (sym line.is ∙ empty))) line ends

pub longer_line_read : {pieces : List Piece} {a b : Place} {rest : Text} → length b.rest < length a.rest → Reads pieces a b → IsRight b
    → EndsLine b.rest rest → ReadsLines (pieces ∷ []) a.rest rest
longer_line_read {pieces} {a} {b} {rest} longer read right ends =
    line_from (λ empty. let none : length a.rest ≡ 0 = ap length empty in absurd (omega arith)) (read.read right) ends

pub no_lines : (text : Text) → ReadsLines [] text text
no_lines text = record { followed = λ more follow. follow }

-- lines and further lines
infixl 10 ◌▹◌
pub ◌▹◌ : {xs ys : List (List Piece)} {a b c : Text} → ReadsLines xs a b → ReadsLines ys b c → ReadsLines (xs ++ ys) a c
◌▹◌ {xs} {ys} {a} {b} {c} p q = record {
  followed = λ more follow.
      subst (λ (l : List (List Piece)). Follow l a) (sym (append_assoc xs ys more)) (p.followed (ys ++ more) (q.followed more follow));
}

-- a text of which all lines are read
pub whole_text : (lines : List (List Piece)) (text start end : Text) → IsBlankFront text start → ReadsLines lines start end → end ≡ []
    → SpellsLines exact lines text
whole_text lines text start end blank read ended =
    let last : Follow [] end = record { spelled = subst (λ (l : Text). AreBlank l) (sym ended) tt; some = λ e. refl } in
    let all : Follow lines start = subst (λ (l : List (List Piece)). Follow l start) (append-nil lines) (read.followed [] last) in
    subst (λ (l : Text). SpellsLines exact lines l) (sym blank.is) (blank_before lines blank.front start blank.blank all.spelled)
