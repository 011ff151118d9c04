-- What is printed spells its pieces.
use Rattle.std.proofs.Common.{◌≡◌, ℕ, ◌<◌, ◌/◌, ◌%◌, ◌^◌, ◌==◌, Bool, true, false, List, [], ◌∷◌, ◌++◌, flat_map, refl, sym, ap, subst, ◌∙◌, inl, inr}
use Rattle.std.proofs.Common.{arith, append_assoc, append-nil, eqb-true, if◌then◌else◌}
use Rattle.std.specs.Fmt.{decimal}
use Rattle.std.proofs.lemmas.Fmt.{decimal_is_IsNumeral}
use Rattle.hex.specs.Hex.{encode_upper, encode_with}
use Rattle.hex.proofs.HexLemmas.{IsDigits-upper_digits}
use Rattle.mufom_numbers.specs.Spelling.{AreBytes}
use Rattle.mufom_text.specs.Words.{Text, quoted, quoted_byte, hex_bytes, stands_for_itself}
use Rattle.mufom_build_text.specs.Pieces.{Piece, byte, gap, Reading, SpellsNumber, AreDigitsOf, SpellsDigits, SpellsNameByte}
use Rattle.mufom_build_text.specs.Pieces.{SpellsNameBytes, SpellsName}
use Rattle.mufom_build_text.specs.Pieces.{SpellsPiece, Spells, words}

pub spells-append : (r : Reading) (xs ys : List Piece) (s t : Text) → Spells r xs s → Spells r ys t → Spells r (xs ++ ys) (s ++ t)
spells-append r [] ys s t none others = subst (λ (l : Text). Spells r ys (l ++ t)) (sym none) others
spells-append r (x ∷ xs) ys s t (first, rest, e, spelled, more) others =
    (first, rest ++ t, ap (λ l. l ++ t) e ∙ append_assoc first rest t, spelled, spells-append r xs ys rest t more others)

pub spells-one : (r : Reading) (x : Piece) (s : Text) → SpellsPiece r x s → Spells r (x ∷ []) s
spells-one r x s spelled = (s, [], sym (append-nil s), spelled, refl)

pub number_spelled : (n : ℕ) → n < 2 ^ 64 → SpellsNumber n (decimal n)
number_spelled n small = decimal_is_IsNumeral n small

-- ---- words

word_spelled : (r : Reading) (b : ℕ) (is_space : Bool) → (is_space ≡ true → b ≡ 32) → SpellsPiece r (if is_space then gap else byte b) (b ∷ [])
word_spelled r b true space = (let some : 0 < 1 = omega arith in some, (space refl, tt))
word_spelled r b false space = refl

pub words_spelled : (r : Reading) (text : Text) → Spells r (words text) text
words_spelled r [] = refl
words_spelled r (b ∷ text) = (b ∷ [], text, refl, word_spelled r b (b == 32) (eqb-true b 32), words_spelled r text)

-- ---- digits

digits_of_byte : (b : ℕ) → b < 256 → (high : ℕ) × (low : ℕ) × (encode_upper (b ∷ []) ≡ high ∷ low ∷ []) × AreDigitsOf b high low
unfolding encode_with
digits_of_byte b small = (_, _, refl, (IsDigits-upper_digits (b / 16) (omega arith), IsDigits-upper_digits (b % 16) (omega arith)))

pub digits_spelled : (bytes : List ℕ) → AreBytes bytes → SpellsDigits bytes (hex_bytes bytes)
digits_spelled [] small = refl
digits_spelled (b ∷ bytes) (small, rest) =
    let (high, low, e, are) = digits_of_byte b small in
    (high, low, hex_bytes bytes, ap (λ l. l ++ hex_bytes bytes) e, are, digits_spelled bytes rest)

-- ---- names

name_byte_spelled : (b : ℕ) (itself : Bool) → b < 256 → (itself ≡ true → stands_for_itself b ≡ true)
    → SpellsNameByte b (if itself then b ∷ [] else 0x5C ∷ 0x78 ∷ encode_upper (b ∷ []))
name_byte_spelled b true small same = inl (same refl, refl)
name_byte_spelled b false small same =
    let (high, low, e, are) = digits_of_byte b small in
    inr (high, low, ap (λ l. 0x5C ∷ 0x78 ∷ l) e, are)

name_bytes_spelled : (bytes : List ℕ) → AreBytes bytes → SpellsNameBytes bytes (flat_map quoted_byte bytes)
name_bytes_spelled [] small = refl
name_bytes_spelled (b ∷ bytes) (small, rest) =
    (quoted_byte b, flat_map quoted_byte bytes, refl, name_byte_spelled b (stands_for_itself b) small (λ h. h), name_bytes_spelled bytes rest)

pub name_spelled : (bytes : List ℕ) → AreBytes bytes → SpellsName bytes (quoted bytes)
name_spelled bytes small = (flat_map quoted_byte bytes, refl, name_bytes_spelled bytes small)
