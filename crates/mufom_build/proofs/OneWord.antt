-- What follows the same words, and words that the same bytes do not spell.
use Rattle.std.proofs.Common.{◌≡◌, ℕ, ◌<◌, ◌==◌, ◌&&◌, not, nat_lt, Bool, true, false, List, [], ◌∷◌, ◌++◌, length}
use Rattle.std.proofs.Common.{refl, sym, ap, subst, ◌∙◌, eqb-true, arith, if◌then◌else◌}
use Rattle.std.specs.Char.{digit_value}
use Rattle.mufom_text.specs.Words.{Text}
use Rattle.mufom_build_text.specs.Pieces.{Piece, byte, gap, figure, position, count, name, loose, Spells, words, word_piece, AreSpaces}
use Rattle.mufom_build_text.specs.Loosely.{no_space, no_figure}
use Rattle.mufom_build_text.proofs.FirstBytes.{both_true, no, first_is, numeral_first, below}
use Rattle.mufom_build.proofs.OnePiece.{Both, byte_both, gap_both, figure_both, position_both, count_both, name_both}

-- the words begin with another byte than a space
abbrev pub begins_solid : Text → Bool
begins_solid [] = false
begins_solid (c ∷ w) = not (c == 32)

-- the words have no two spaces in a row, and do not end with a space
abbrev pub tight : Text → Bool
tight [] = true
tight (c ∷ w) = (if c == 32 then begins_solid w else true) && tight w

no_space_piece : (b : Bool) (c : ℕ) (more : List Piece) → (c == 32) ≡ b → not b ≡ true → no_space ((if b then gap else byte c) ∷ more) ≡ true
no_space_piece true c more e h = absurd (no h)
no_space_piece false c more e h = ap not e

pub solid_no_space : (w : Text) (more : List Piece) → begins_solid w ≡ true → no_space (words w ++ more) ≡ true
solid_no_space [] more h = absurd (no h)
solid_no_space (c ∷ w) more h = no_space_piece (c == 32) c (words w ++ more) refl h

word_both : (b : Bool) (c : ℕ) (xs ys : List Piece) → (b ≡ true → no_space xs ≡ true) → (b ≡ true → no_space ys ≡ true)
    → Both ((if b then gap else byte c) ∷ xs) ((if b then gap else byte c) ∷ ys) → Both xs ys
word_both true c xs ys g h both = gap_both xs ys (g refl) (h refl) both
word_both false c xs ys g h both = byte_both c xs ys both

-- what a test says that is made under a condition
pub under : (b c : Bool) → (if b then c else true) ≡ true → b ≡ true → c ≡ true
under true c h e = h
under false c h e = absurd (no e)

-- what follows the same words
pub words_both : (w : Text) (xs ys : List Piece) → tight w ≡ true → Both (words w ++ xs) (words w ++ ys) → Both xs ys
words_both [] xs ys h both = both
words_both (c ∷ w) xs ys h both =
    let (here, more) = both_true (if c == 32 then begins_solid w else true) (tight w) h in
    words_both w xs ys more (word_both (c == 32) c (words w ++ xs) (words w ++ ys)
    (λ e. solid_no_space w xs (under (c == 32) (begins_solid w) here e))
    (λ e. solid_no_space w ys (under (c == 32) (begins_solid w) here e)) both)

-- the words have no two spaces in a row, but may end with one
abbrev pub begins_free : Text → Bool
begins_free [] = true
begins_free (c ∷ w) = not (c == 32)

abbrev pub spaced : Text → Bool
spaced [] = true
spaced (c ∷ w) = (if c == 32 then begins_free w else true) && spaced w

free_no_space : (w : Text) (more : List Piece) → begins_free w ≡ true → no_space more ≡ true → no_space (words w ++ more) ≡ true
free_no_space [] more h free = free
free_no_space (c ∷ w) more h free = no_space_piece (c == 32) c (words w ++ more) refl h

-- what follows the same words, where it begins with no space
pub spaced_both : (w : Text) (xs ys : List Piece) → spaced w ≡ true → no_space xs ≡ true → no_space ys ≡ true → Both (words w ++ xs) (words w ++ ys)
    → Both xs ys
spaced_both [] xs ys h left right both = both
spaced_both (c ∷ w) xs ys h left right both =
    let (here, more) = both_true (if c == 32 then begins_free w else true) (spaced w) h in
    spaced_both w xs ys more left right (word_both (c == 32) c (words w ++ xs) (words w ++ ys)
    (λ e. free_no_space w xs (under (c == 32) (begins_free w) here e) left)
    (λ e. free_no_space w ys (under (c == 32) (begins_free w) here e) right) both)

-- ---- words that differ

-- the words differ at some byte, up to which no two spaces are in a row
abbrev pub clash : Text → Text → Bool
clash [] v = false
clash (c ∷ w) [] = false
clash (c ∷ w) (d ∷ v) = if c == d
    then ((if c == 32 then begins_solid w else true) && ((if c == 32 then begins_solid v else true) && clash w v)) else true

-- the first byte of what a byte of words is spelled by
first_of_word : (b : Bool) (c : ℕ) (xs : List Piece) (r : Text) → (c == 32) ≡ b → Spells loose ((if b then gap else byte c) ∷ xs) r
    → (tail : Text) × (r ≡ c ∷ tail)
first_of_word true c xs r e (first, rest, is, (some, spaces), more) = at_space first some spaces is
  where
    at_space : (s : Text) → 0 < length s → AreSpaces s → r ≡ s ++ rest → (tail : Text) × (r ≡ c ∷ tail)
    at_space [] none spaces is = absurd (omega (arith, none))
    at_space (x ∷ s) some (here, more) is = (s ++ rest, is ∙ ap (λ z. z ∷ (s ++ rest)) (here ∙ sym (eqb-true c 32 e)))
first_of_word false c xs r e (first, rest, is, spelled, more) = (rest, is ∙ ap (λ l. l ++ rest) spelled)

pub word_first : (c : ℕ) (xs : List Piece) (r : Text) → Spells loose (word_piece c ∷ xs) r → (tail : Text) × (r ≡ c ∷ tail)
word_first c xs r spelled = first_of_word (c == 32) c xs r refl spelled

differ : (c d : ℕ) (xs ys : List Piece) → (c == d) ≡ false → Both (word_piece c ∷ xs) (word_piece d ∷ ys) → ⊥
differ c d xs ys e both =
    let (s, left) = word_first c xs both.text both.left in
    let (t, right) = word_first d ys both.text both.right in
    let same_bytes : c ∷ s ≡ d ∷ t = sym left ∙ right in
    let same : c ≡ d = cc in
    let h : (d == d) ≡ false = subst (λ (x : ℕ). (x == d) ≡ false) same e in
    grind arith

pub words_differ : (w v : Text) (xs ys : List Piece) → clash w v ≡ true → Both (words w ++ xs) (words v ++ ys) → ⊥
words_differ [] v xs ys h both = no h
words_differ (c ∷ w) [] xs ys h both = no h
words_differ (c ∷ w) (d ∷ v) xs ys h both = by_byte (words_differ w v xs ys) (c == d) refl h
  where
    by_byte : (clash w v ≡ true → Both (words w ++ xs) (words v ++ ys) → ⊥) → (b : Bool) → (c == d) ≡ b
        → (if b then ((if c == 32 then begins_solid w else true) && ((if c == 32 then begins_solid v else true) && clash w v)) else true) ≡ true → ⊥
    by_byte rest_differs false e k = differ c d (words w ++ xs) (words v ++ ys) e both
    by_byte rest_differs true e k =
        let (left, others) = both_true (if c == 32 then begins_solid w else true) ((if c == 32 then begins_solid v else true) && clash w v) k in
        let (right, rest) = both_true (if c == 32 then begins_solid v else true) (clash w v) others in
        let same = eqb-true c d e in
        let again = subst (λ (x : ℕ). Both (word_piece c ∷ (words w ++ xs)) (word_piece x ∷ (words v ++ ys))) (sym same) both in
        rest_differs rest (word_both (c == 32) c (words w ++ xs) (words v ++ ys)
        (λ f. solid_no_space w xs (under (c == 32) (begins_solid w) left f))
        (λ f. solid_no_space v ys (under (c == 32) (begins_solid v) right f)) again)

-- nothing is no word
pub nothing_is_no_word : (c : ℕ) (xs : List Piece) → Both [] (word_piece c ∷ xs) → ⊥
nothing_is_no_word c xs both =
    let (s, e) = word_first c xs both.text both.right in
    let h : [] ≡ c ∷ s = sym both.left ∙ e in cc

-- a number is no word
pub number_is_no_word : (most n c : ℕ) (xs ys : List Piece) → not (nat_lt (digit_value c) 10) ≡ true → Both (figure most n ∷ xs) (word_piece c ∷ ys)
    → ⊥
number_is_no_word most n c xs ys h both =
    let (first, rest, is, (numeral, value), more) = both.left in
    let (x, tail, begins, small) = numeral_first first numeral in
    let (s, e) = word_first c ys both.text both.right in
    let same : c ≡ x = first_is rest is begins e in
    below (digit_value c) (subst (λ (y : ℕ). digit_value y < 10) (sym same) small) h

pub turned : (xs ys : List Piece) → Both xs ys → Both ys xs
turned xs ys both = record { text = both.text; left = both.right; right = both.left }

-- ---- the same, by what is before

pub past_gap : {xs ys : List Piece} → Both (gap ∷ xs) (gap ∷ ys) → no_space xs ≡ true → no_space ys ≡ true → Both xs ys
past_gap {xs} {ys} both g h = gap_both xs ys g h both

pub past_figure : {most m other n : ℕ} {xs ys : List Piece} → Both (figure most m ∷ xs) (figure other n ∷ ys) → no_figure xs ≡ true
    → no_figure ys ≡ true
    → (m ≡ n) × Both xs ys
past_figure {most} {m} {other} {n} {xs} {ys} both g h = figure_both most m other n xs ys g h both

pub past_position : {m n : ℕ} {xs ys : List Piece} → Both (position m ∷ xs) (position n ∷ ys) → no_figure xs ≡ true → no_figure ys ≡ true → Both xs ys
past_position {m} {n} {xs} {ys} both g h = position_both m n xs ys g h both

pub past_count : {m n : ℕ} {xs ys : List Piece} → Both (count m ∷ xs) (count n ∷ ys) → no_figure xs ≡ true → no_figure ys ≡ true → Both xs ys
past_count {m} {n} {xs} {ys} both g h = count_both m n xs ys g h both

pub past_name : {m n : List ℕ} {xs ys : List Piece} → Both (name m ∷ xs) (name n ∷ ys) → (m ≡ n) × Both xs ys
past_name {m} {n} {xs} {ys} both = name_both m n xs ys both
