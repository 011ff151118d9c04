-- Which byte pieces begin with, and where runs of bytes end.
use Rattle.std.proofs.Common.{◌≡◌, ℕ, ◌<◌, ◌/◌, ◌==◌, ◌&&◌, not, nat_lt, Bool, true, false, List, [], ◌∷◌, ◌++◌, length, Some}
use Rattle.std.proofs.Common.{refl, sym, ap, subst, ◌∙◌, inl, inr, arith}
use Rattle.std.specs.List.{AllByRecursion}
use Rattle.std.specs.Str.Parse.{AllDigits, IsNumeral}
use Rattle.std.specs.Char.{digit_value}
use Rattle.hex.specs.Hex.{hex_digit_value}
use Rattle.mufom_text.specs.Words.{Text}
use Rattle.mufom_build_text.specs.Pieces.{Piece, byte, gap, figure, position, count, name, digits, expression, block, loose, Spells, AreSpaces}
use Rattle.mufom_build_text.specs.Reads.{IsLineEnd}
use Rattle.mufom_build_text.specs.Loosely.{Avoids, IsSpace, IsFigure, IsHex, no_space, no_figure, no_hex}

pub no : false ≡ true → ⊥
no e = cc

pub both_true : (a b : Bool) → (a && b) ≡ true → (a ≡ true) × (b ≡ true)
both_true true true e = (refl, refl)
both_true true false e = absurd (no e)
both_true false true e = absurd (no e)
both_true false false e = absurd (no e)

-- ---- where runs of bytes end

pub one_run : (P : ℕ → Type 0) (s t u v : Text) → AllByRecursion P s → AllByRecursion P t → s ++ u ≡ t ++ v → Avoids P u → Avoids P v
    → (s ≡ t) × (u ≡ v)
one_run P [] [] u v a b e p q = (refl, e)
one_run P [] (y ∷ t) u v a (here, b) e p q = absurd (p y (t ++ v) e here)
one_run P (x ∷ s) [] u v (here, a) b e p q = absurd (q x (s ++ u) (sym e) here)
one_run P (x ∷ s) (y ∷ t) u v (here, a) (there, b) e p q =
    let first : x ≡ y = cc in
    let others : s ++ u ≡ t ++ v = cc in
    let (same, rest) = one_run P s t u v a b others p q in
    (ap (λ l. x ∷ l) same ∙ ap (λ z. z ∷ t) first, rest)

pub all_figures : (s : Text) → AllDigits 10 s → AllByRecursion IsFigure s
all_figures [] all = tt
all_figures (b ∷ s) (here, all) = (here, all_figures s all)

-- the first byte of a text
pub first_is : {s first : Text} (rest : Text) {tail more : Text} {x b : ℕ} → s ≡ first ++ rest → first ≡ x ∷ tail → s ≡ b ∷ more → b ≡ x
first_is {s} {first} rest {tail} {more} {x} {b} e f g = let h : b ∷ more ≡ x ∷ (tail ++ rest) = sym g ∙ e ∙ ap (λ l. l ++ rest) f in cc

-- a text that is not empty, by its first byte
abbrev pub BeginsBy : (ℕ → Type 0) → Text → Type 0
BeginsBy P text = (x : ℕ) × (tail : Text) × (text ≡ x ∷ tail) × P x

pub some_first : (P : ℕ → Type 0) (s : Text) → 0 < length s → AllByRecursion P s → BeginsBy P s
some_first P [] some all = absurd (omega (arith, some))
some_first P (x ∷ s) some (here, all) = (x, s, refl, here)

pub numeral_first : (s : Text) → IsNumeral 10 s → BeginsBy IsFigure s
numeral_first s (some, all) = some_first IsFigure s some (all_figures s all)

-- ---- what pieces do not begin with

figure_is_no_space : (x : ℕ) → IsFigure x → x ≡ 32 → ⊥
figure_is_no_space x small e = let h : digit_value 32 < 10 = subst IsFigure e small in omega (arith, h)

quote_is_no_space : (x : ℕ) → x ≡ 0x22 → x ≡ 32 → ⊥
quote_is_no_space x e f = omega (arith, e, f)

not_space : (v : ℕ) → not (v == 32) ≡ true → v ≡ 32 → ⊥
not_space v h e = no (ap (λ n. not (n == 32)) (sym e) ∙ h)

hex_is_no_space : (high n : ℕ) → hex_digit_value high ≡ Some n → high ≡ 32 → ⊥
hex_is_no_space high n is e = let h : hex_digit_value 32 ≡ Some n = ap hex_digit_value (sym e) ∙ is in cc

pub no_space_spelled : (pieces : List Piece) → no_space pieces ≡ true → (s : Text) → Spells loose pieces s → Avoids IsSpace s
no_space_spelled [] h s e b more is p = let k : [] ≡ b ∷ more = sym e ∙ is in cc
no_space_spelled (byte v ∷ ps) h s (first, rest, e, f, others) b more is p = not_space v h (sym (first_is rest e f is) ∙ p)
no_space_spelled (gap ∷ ps) h s spelled b more is p = no h
no_space_spelled (figure most n ∷ ps) h s (first, rest, e, (f, value), others) b more is p =
    let (x, tail, begins, small) = numeral_first first f in figure_is_no_space x small (sym (first_is rest e begins is) ∙ p)
no_space_spelled (position n ∷ ps) h s (first, rest, e, f, others) b more is p =
    let (x, tail, begins, small) = numeral_first first f in figure_is_no_space x small (sym (first_is rest e begins is) ∙ p)
no_space_spelled (count n ∷ ps) h s (first, rest, e, f, others) b more is p =
    let (x, tail, begins, small) = numeral_first first f in figure_is_no_space x small (sym (first_is rest e begins is) ∙ p)
no_space_spelled (name bytes ∷ ps) h s (first, rest, e, (inside, f, spelled), others) b more is p =
    quote_is_no_space b (first_is rest e f is) p
no_space_spelled (digits [] ∷ ps) h s (first, rest, e, f, others) b more is p =
    no_space_spelled ps h rest others b more (ap (λ l. l ++ rest) (sym f) ∙ sym e ∙ is) p
no_space_spelled (digits (d ∷ bytes) ∷ ps) h s (first, rest, e, (high, low, inside, f, are, spelled), others) b more is p =
    hex_is_no_space high (d / 16) are.0 (sym (first_is rest e f is) ∙ p)
no_space_spelled (expression n ∷ ps) h s (first, rest, e, f, others) b more is p =
    no_space_spelled ps h rest others b more (ap (λ l. l ++ rest) (sym f) ∙ sym e ∙ is) p
no_space_spelled (block n ∷ ps) h s (first, rest, e, f, others) b more is p =
    no_space_spelled ps h rest others b more (ap (λ l. l ++ rest) (sym f) ∙ sym e ∙ is) p

pub below : (n : ℕ) → n < 10 → not (nat_lt n 10) ≡ true → ⊥
below n small h = grind arith

pub no_figure_spelled : (pieces : List Piece) → no_figure pieces ≡ true → (s : Text) → Spells loose pieces s → Avoids IsFigure s
no_figure_spelled [] h s e b more is p = let k : [] ≡ b ∷ more = sym e ∙ is in cc
no_figure_spelled (byte v ∷ ps) h s (first, rest, e, f, others) b more is p =
    below (digit_value v) (subst IsFigure (first_is rest e f is) p) h
no_figure_spelled (gap ∷ ps) h s (first, rest, e, (some, spaces), others) b more is p =
    let (x, tail, begins, is_space) = some_first IsSpace first some spaces in
    figure_is_no_space b p (first_is rest e begins is ∙ is_space)
no_figure_spelled (figure most n ∷ ps) h s spelled b more is p = no h
no_figure_spelled (position n ∷ ps) h s spelled b more is p = no h
no_figure_spelled (count n ∷ ps) h s spelled b more is p = no h
no_figure_spelled (name bytes ∷ ps) h s (first, rest, e, (inside, f, spelled), others) b more is p =
    let k : digit_value 0x22 < 10 = subst IsFigure (first_is rest e f is) p in omega (arith, k)
no_figure_spelled (digits [] ∷ ps) h s (first, rest, e, f, others) b more is p =
    no_figure_spelled ps h rest others b more (ap (λ l. l ++ rest) (sym f) ∙ sym e ∙ is) p
no_figure_spelled (digits (d ∷ bytes) ∷ ps) h s spelled b more is p = no h
no_figure_spelled (expression n ∷ ps) h s (first, rest, e, f, others) b more is p =
    no_figure_spelled ps h rest others b more (ap (λ l. l ++ rest) (sym f) ∙ sym e ∙ is) p
no_figure_spelled (block n ∷ ps) h s (first, rest, e, f, others) b more is p =
    no_figure_spelled ps h rest others b more (ap (λ l. l ++ rest) (sym f) ∙ sym e ∙ is) p

pub no_hex_spelled : (pieces : List Piece) → no_hex pieces ≡ true → (s : Text) → Spells loose pieces s → Avoids IsHex s
no_hex_spelled [] h s e b more is p = let k : [] ≡ b ∷ more = sym e ∙ is in cc
no_hex_spelled (gap ∷ ps) h s (first, rest, e, (some, spaces), others) b more is (n, hex) =
    let (x, tail, begins, is_space) = some_first IsSpace first some spaces in
    hex_is_no_space b n hex (first_is rest e begins is ∙ is_space)
no_hex_spelled (byte v ∷ ps) h s spelled b more is p = no h
no_hex_spelled (figure most n ∷ ps) h s spelled b more is p = no h
no_hex_spelled (position n ∷ ps) h s spelled b more is p = no h
no_hex_spelled (count n ∷ ps) h s spelled b more is p = no h
no_hex_spelled (name bytes ∷ ps) h s spelled b more is p = no h
no_hex_spelled (digits bytes ∷ ps) h s spelled b more is p = no h
no_hex_spelled (expression n ∷ ps) h s spelled b more is p = no h
no_hex_spelled (block n ∷ ps) h s spelled b more is p = no h

-- ---- what follows the last piece of a line

-- what comes after pieces, with spaces and the end of the line, begins with no byte that a space and a line feed are none of
pub avoids_after : (P : ℕ → Type 0) (rest spaces end : Text) → Avoids P rest → AreSpaces spaces → IsLineEnd end → (P 32 → ⊥) → (P 10 → ⊥)
    → Avoids P (rest ++ (spaces ++ end))
avoids_after P [] [] end avoids are (inl e) space feed = λ b more is p. let k : [] ≡ b ∷ more = sym e ∙ is in cc
avoids_after P [] [] end avoids are (inr (after, e)) space feed = λ b more is p.
    let k : b ∷ more ≡ 10 ∷ after = sym is ∙ e in
    let same : b ≡ 10 = cc in
    feed (subst P same p)
avoids_after P [] (x ∷ spaces) end avoids (here, are) line_end space feed = λ b more is p.
    let first : x ≡ b = cc in
    space (subst P (sym first ∙ here) p)
avoids_after P (x ∷ rest) spaces end avoids are line_end space feed = λ b more is p.
    let first : x ≡ b = cc in
    avoids x rest refl (subst P (sym first) p)

-- an end of a line begins with no space
pub end_avoids : (end : Text) → IsLineEnd end → Avoids IsSpace end
end_avoids end (inl e) = λ b more is p. let k : [] ≡ b ∷ more = sym e ∙ is in cc
end_avoids end (inr (after, e)) = λ b more is p.
    let k : b ∷ more ≡ 10 ∷ after = sym is ∙ e in
    let same : b ≡ 10 = cc in
    omega (arith, same, p)
