-- How a text spells given lines, where it does: each step returns what it took with the proof that it spells the piece. With
-- it a worked row is one equation that computes.
use Rattle.std.proofs.Common.{◌≡◌, ℕ, ◌<◌, ◌/◌, ◌%◌, ◌==◌, nat_lt, Bool, true, false, List, [], ◌∷◌, ◌++◌, length, Option, Some, None, is_some, refl}
use Rattle.std.proofs.Common.{ap, sym, subst, ◌∙◌, append_assoc, append-nil, inl, inr, eqb-true, ◌⊎◌, arith}
use Rattle.std.specs.Str.Parse.{AllDigits, digits_value}
use Rattle.std.specs.Char.{digit_value}
use Rattle.hex.specs.Hex.{hex_digit_value}
use Rattle.mufom_text.specs.Words.{Text, stands_for_itself}
use Rattle.mufom_build_text.specs.Pieces.{Piece, byte, gap, figure, position, count, name, digits, expression, block}
use Rattle.mufom_build_text.specs.Pieces.{Reading, exact, loose, SpellsNumber}
use Rattle.mufom_build_text.specs.Pieces.{SpellsStated, AreDigitsOf, SpellsDigits, SpellsNameByte, SpellsNameBytes, SpellsName}
use Rattle.mufom_build_text.specs.Pieces.{AreSpaces, SpellsPiece, Spells}
use Rattle.mufom_build_text.specs.Places.{AreBlank, SpellsLines}

-- what follows from a test, where it passes
abbrev passing : {A : Type 0} (b : Bool) → (b ≡ true → A) → Option A
passing true f = Some (f refl)
passing false f = None

abbrev same : (a b : ℕ) → Option (a ≡ b)
same a b = passing (a == b) (eqb-true a b)

pub is_below : (a b : ℕ) → nat_lt a b ≡ true → a < b
is_below a b h = grind arith

abbrev below : (a b : ℕ) → Option (a < b)
below a b = passing (nat_lt a b) (is_below a b)

abbrev then : {A B : Type 0} → Option A → (A → Option B) → Option B
then None f = None
then (Some a) f = f a

abbrev or_else : {A : Type 0} → Option A → Option A → Option A
or_else (Some a) other = Some a
or_else None other = other

-- bytes of the text before the rest, with a fact of them
abbrev Front : (Text → Type 0) → Text → Type 0
Front P text = (first : Text) × (rest : Text) × (text ≡ first ++ rest) × P first

abbrev with_space : (b : ℕ) (text : Text) → Option (b ≡ 32) → Front AreSpaces text → Front AreSpaces (b ∷ text)
with_space b text None more = ([], b ∷ text, refl, tt)
with_space b text (Some e) (first, rest, is, spaces) = (b ∷ first, rest, ap (λ l. b ∷ l) is, (e, spaces))

abbrev spaces_of : (text : Text) → Front AreSpaces text
spaces_of [] = ([], [], refl, tt)
spaces_of (b ∷ text) = with_space b text (same b 32) (spaces_of text)

abbrev with_blank : (b : ℕ) (text : Text) → Option (b ≡ 32) → Option (b ≡ 10) → Front AreBlank text → Front AreBlank (b ∷ text)
with_blank b text None None more = ([], b ∷ text, refl, tt)
with_blank b text (Some e) other (first, rest, is, blank) = (b ∷ first, rest, ap (λ l. b ∷ l) is, (inl e, blank))
with_blank b text None (Some e) (first, rest, is, blank) = (b ∷ first, rest, ap (λ l. b ∷ l) is, (inr e, blank))

abbrev blanks_of : (text : Text) → Front AreBlank text
blanks_of [] = ([], [], refl, tt)
blanks_of (b ∷ text) = with_blank b text (same b 32) (same b 10) (blanks_of text)

abbrev with_figure : (b : ℕ) (text : Text) → Option (digit_value b < 10) → Front (AllDigits 10) text → Front (AllDigits 10) (b ∷ text)
with_figure b text None more = ([], b ∷ text, refl, tt)
with_figure b text (Some e) (first, rest, is, all) = (b ∷ first, rest, ap (λ l. b ∷ l) is, (e, all))

abbrev figures_of : (text : Text) → Front (AllDigits 10) text
figures_of [] = ([], [], refl, tt)
figures_of (b ∷ text) = with_figure b text (below (digit_value b) 10) (figures_of text)

abbrev exact_number : (n : ℕ) (text : Text) → Front (AllDigits 10) text → Option (Front (SpellsNumber n) text)
exact_number n text (first, rest, is, all) = then (below 0 (length first))
    (λ some. then (same (digits_value 10 first) n) (λ right. Some (first, rest, is, ((some, all), right))))

abbrev any_number : (n : ℕ) (text : Text) → Front (AllDigits 10) text → Option (Front (SpellsStated loose n) text)
any_number n text (first, rest, is, all) = then (below 0 (length first)) (λ some. Some (first, rest, is, (some, all)))

abbrev number_in : (n : ℕ) (text : Text) → Option (Front (SpellsNumber n) text)
number_in n text = exact_number n text (figures_of text)

abbrev stated_in : (reading : Reading) (n : ℕ) (text : Text) → Option (Front (SpellsStated reading n) text)
stated_in exact n text = number_in n text
stated_in loose n text = any_number n text (figures_of text)

-- ---- digits and names

abbrev value_is : (v : ℕ) (o : Option ℕ) → Option (o ≡ Some v)
value_is v None = None
value_is v (Some w) = then (same w v) (λ e. Some (ap Some e))

abbrev two_digits : (b high low : ℕ) → Option (AreDigitsOf b high low)
two_digits b high low = then (value_is (b / 16) (hex_digit_value high)) (λ h. then (value_is (b % 16) (hex_digit_value low)) (λ l. Some (h, l)))

abbrev with_digits : (b high low : ℕ) (bytes : List ℕ) (text : Text) → AreDigitsOf b high low → Front (SpellsDigits bytes) text
    → Front (SpellsDigits (b ∷ bytes)) (high ∷ low ∷ text)
with_digits b high low bytes text are (first, rest, is, spelled) =
    (high ∷ low ∷ first, rest, ap (λ l. high ∷ low ∷ l) is, (high, low, first, refl, are, spelled))

abbrev digits_in : (bytes : List ℕ) (text : Text) → Option (Front (SpellsDigits bytes) text)
digits_in [] text = Some ([], text, refl, refl)
digits_in (b ∷ bytes) [] = None
digits_in (b ∷ bytes) (high ∷ []) = None
digits_in (b ∷ bytes) (high ∷ low ∷ text) = then (two_digits b high low)
    (λ are. then (digits_in bytes text) (λ more. Some (with_digits b high low bytes text are more)))

abbrev by_itself : (b c : ℕ) (text : Text) → Option (Front (SpellsNameByte b) (c ∷ text))
by_itself b c text = then (same c b) (λ e. passing (stands_for_itself b) (λ itself. (c ∷ [], text, refl, inl (itself, ap (λ x. x ∷ []) e))))

abbrev by_digits : (b c : ℕ) (text : Text) → Option (Front (SpellsNameByte b) (c ∷ text))
by_digits b c (x ∷ high ∷ low ∷ text) = then (same c 0x5C) (λ e. then (same x 0x78) (λ k. then (two_digits b high low)
    (λ are. Some (
      c ∷ x ∷ high ∷ low ∷ [],
      text,
      refl,
      inr (
        high,
        low,
        ap (λ y. y ∷ x ∷ high ∷ low ∷ []) e
            ∙ ap (λ y. 0x5C ∷ y ∷ high ∷ low ∷ []) k,
        are,
      ),
    ))))
by_digits b c _ = None

abbrev name_byte_in : (b : ℕ) (text : Text) → Option (Front (SpellsNameByte b) text)
name_byte_in b [] = None
name_byte_in b (c ∷ text) = or_else (by_itself b c text) (by_digits b c text)

-- a step, and then another in what it leaves
abbrev joined : (P Q R : Text → Type 0) → ((s t : Text) → P s → Q t → R (s ++ t)) → (text : Text) → Front P text
    → ((rest : Text) → Option (Front Q rest)) → Option (Front R text)
joined P Q R join text (first, rest, is, p) next = then (next rest) (λ more.
    Some (first ++ more.0, more.1, is ∙ ap (λ l. first ++ l) more.2 ∙ sym (append_assoc first more.0 more.1), join first more.0 p more.3))

abbrev name_bytes_in : (bytes : List ℕ) (text : Text) → Option (Front (SpellsNameBytes bytes) text)
name_bytes_in [] text = Some ([], text, refl, refl)
name_bytes_in (b ∷ bytes) text = then (name_byte_in b text) (λ one.
    joined (SpellsNameByte b) (SpellsNameBytes bytes) (SpellsNameBytes (b ∷ bytes)) (λ s t p q. (s, t, refl, p, q)) text one (name_bytes_in bytes))

abbrev closing_quote : (c : ℕ) (bytes : List ℕ) (text : Text) → c ≡ 0x22 → Front (SpellsNameBytes bytes) text
    → Option (Front (SpellsName bytes) (c ∷ text))
closing_quote c bytes text e (inside, [], is, spelled) = None
closing_quote c bytes text e (inside, q ∷ rest, is, spelled) = then (same q 0x22) (λ k.
    Some (
      c ∷ (inside ++ q ∷ []),
      rest,
      ap (λ l. c ∷ l) (is ∙ sym (append_assoc inside (q ∷ []) rest)),
      (inside, ap (λ y. y ∷ (inside ++ q ∷ [])) e ∙ ap (λ y. 0x22 ∷ (inside ++ y ∷ [])) k, spelled),
    ))

abbrev name_in : (bytes : List ℕ) (text : Text) → Option (Front (SpellsName bytes) text)
name_in bytes [] = None
name_in bytes (c ∷ text) = then (same c 0x22) (λ e. then (name_bytes_in bytes text) (λ inside. closing_quote c bytes text e inside))

-- ---- pieces

abbrev byte_in : (v : ℕ) (text : Text) → Option (Front (λ t. t ≡ v ∷ []) text)
byte_in v [] = None
byte_in v (b ∷ text) = then (same b v) (λ e. Some (b ∷ [], text, refl, ap (λ x. x ∷ []) e))

abbrev some_spaces : (text : Text) → Front AreSpaces text → Option (Front (λ t. (0 < length t) × AreSpaces t) text)
some_spaces text (first, rest, is, spaces) = then (below 0 (length first)) (λ some. Some (first, rest, is, (some, spaces)))

abbrev piece_in : (reading : Reading) (piece : Piece) (text : Text) → Option (Front (SpellsPiece reading piece) text)
piece_in reading (byte value) text = byte_in value text
piece_in reading gap text = some_spaces text (spaces_of text)
piece_in reading (figure most value) text = number_in value text
piece_in reading (position value) text = stated_in reading value text
piece_in reading (count value) text = stated_in reading value text
piece_in reading (name bytes) text = name_in bytes text
piece_in reading (digits bytes) text = digits_in bytes text
piece_in reading (expression tokens) text = Some ([], text, refl, refl)
piece_in reading (block opened) text = Some ([], text, refl, refl)

abbrev pieces_in : (reading : Reading) (pieces : List Piece) (text : Text) → Option (Front (Spells reading pieces) text)
pieces_in reading [] text = Some ([], text, refl, refl)
pieces_in reading (piece ∷ pieces) text = then (piece_in reading piece text) (λ one.
    joined (SpellsPiece reading piece) (Spells reading pieces) (Spells reading (piece ∷ pieces)) (λ s t p q. (s, t, refl, p, q)) text one
    (pieces_in reading pieces))

-- ---- lines

-- what follows a line: nothing, or its end and the lines after it
abbrev Following : Reading → List (List Piece) → Text → Type 0
Following reading lines rest = ((rest ≡ []) × (lines ≡ [])) ⊎ ((more : Text) × (rest ≡ 10 ∷ more) × SpellsLines reading lines more)

abbrev ended : (reading : Reading) (lines : List (List Piece)) (rest : Text) → ((more : Text) → Option (SpellsLines reading lines more))
    → Option (Following reading lines rest)
ended reading [] [] next = Some (inl (refl, refl))
ended reading (x ∷ lines) [] next = None
ended reading lines (b ∷ more) next = then (same b 10) (λ e. then (next more) (λ found. Some (inr (more, ap (λ y. y ∷ more) e, found))))

abbrev all_blank : (text : Text) → Front AreBlank text → Option (AreBlank text)
all_blank text (first, [], is, blank) = Some (subst (λ (l : Text). AreBlank l) (sym is)
    (subst (λ (l : Text). AreBlank l) (sym (append-nil first)) blank))
all_blank text (first, b ∷ rest, is, blank) = None

-- The proof that the text spells the lines, where this way to read it finds one.
abbrev pub lines_in : (reading : Reading) (lines : List (List Piece)) (text : Text) → Option (SpellsLines reading lines text)
lines_in reading [] text = all_blank text (blanks_of text)
lines_in reading (pieces ∷ lines) text = let start = blanks_of text in
    then (pieces_in reading pieces start.1) (λ body.
    let space = spaces_of body.1 in
    then (ended reading lines space.1 (lines_in reading lines)) (λ end.
    Some (
      start.0,
      body.0,
      space.0,
      space.1,
      start.2 ∙ ap (λ l. start.0 ++ l) (body.2 ∙ ap (λ l. body.0 ++ l) space.2),
      start.3,
      body.3,
      space.3,
      end,
    )))

-- The proof, where there is one.
pub found : {A : Type 0} (o : Option A) → is_some o ≡ true → A
found (Some a) h = a
found None h = absurd (let no : false ≡ true = h in cc)
