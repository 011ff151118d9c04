-- Names in quotes, and bytes by their digits, at the front of a text.
use Rattle.std.proofs.Common.{◌≡◌, ℕ, ◌+◌, ◌<◌, ◌/◌, ◌%◌, true, List, [], ◌∷◌, ◌++◌, length, Option, Some, None}
use Rattle.std.proofs.Common.{Result, Ok, Err, IfOk, refl, sym, ap, subst, ◌∙◌, inl, inr, arith, append_assoc, append-nil}
use Rattle.std.specs.Prelude.{IfSome, OnOk}
use Rattle.hex.specs.Hex.{hex_digit_value}
use Rattle.mufom_text.specs.Words.{Text, stands_for_itself}
use Rattle.mufom_build_text.specs.Pieces.{name, digits, AreDigitsOf, SpellsDigits, SpellsNameByte, SpellsNameBytes, SpellsName}
use Rattle.mufom_build_text.specs.Reads.{Place, IsDigitsFront, IsNameFront, ReadsRight, Reads}
use Rattle.mufom_build_text.specs.Errors.{IsSound, Fails}
use Rattle.mufom_build_text.specs.Loosely.{Avoids, IsHex, NoHex, Anything, AnyText, IsQuotedFront, TakesDigits, ReadsLoosely, ReadsName, ReadsHex, ReadsText}
use Rattle.mufom_build_text.proofs.FirstBytes.{no, no_hex_spelled, avoids_after}
use Rattle.mufom_build_text.proofs.Fronts.{no_digits, no_name, name_closed}
use Rattle.mufom_build_text.proofs.Reading.{no_rest}
use Rattle.mufom_build_text.proofs.Lists.{empty}
use Rattle.mufom_build_text.proofs.Loosely.{IsEnded, any_ends, failed_bad, moves_over, text_missing, text_read, piece_read, stays, longer}
use Rattle.mufom_build_text.proofs.Loosely.{right_is_sound, reads_exactly}

-- ---- two digits, and a byte of a name

pub same_digits : (m n h i k l : ℕ) → AreDigitsOf m h i → AreDigitsOf n k l → h ≡ k → i ≡ l → m ≡ n
same_digits m n h i k l (a, b) (c, d) e f =
    let high : Some (m / 16) ≡ Some (n / 16) = sym a ∙ ap hex_digit_value e ∙ c in
    let low : Some (m % 16) ≡ Some (n % 16) = sym b ∙ ap hex_digit_value f ∙ d in
    let h16 : m / 16 ≡ n / 16 = cc in
    let l16 : m % 16 ≡ n % 16 = cc in
    omega (arith, h16, l16)

-- a byte of a name begins with no quote
itself_is : (b c : ℕ) → stands_for_itself b ≡ true → b ≡ c → stands_for_itself c ≡ true
itself_is b c h e = ap stands_for_itself (sym e) ∙ h

pub no_quote : (b : ℕ) (s u : Text) (v : Text) → SpellsNameByte b s → s ++ u ≡ 0x22 ∷ v → ⊥
no_quote b s u v (inl (itself, e)) f =
    let k : b ∷ u ≡ 0x22 ∷ v = ap (λ l. l ++ u) (sym e) ∙ f in
    let same : b ≡ 0x22 = cc in
    no (itself_is b 0x22 itself same)
no_quote b s u v (inr (h, l, e, are)) f =
    let k : 0x5C ∷ 0x78 ∷ h ∷ l ∷ u ≡ 0x22 ∷ v = ap (λ w. w ++ u) (sym e) ∙ f in
    let a : ℕ = 0x5C in
    let b : ℕ = 0x22 in
    let same : a ≡ b = cc in
    omega (arith, same)

pub one_name_byte : (m n : ℕ) (s t u v : Text) → SpellsNameByte m s → SpellsNameByte n t → s ++ u ≡ t ++ v → (m ≡ n) × (u ≡ v)
one_name_byte m n s t u v (inl (i, e)) (inl (j, f)) same =
    let k : m ∷ u ≡ n ∷ v = ap (λ l. l ++ u) (sym e) ∙ same ∙ ap (λ l. l ++ v) f in (cc, cc)
one_name_byte m n s t u v (inl (i, e)) (inr (h, l, f, are)) same =
    let k : m ∷ u ≡ 0x5C ∷ 0x78 ∷ h ∷ l ∷ v = ap (λ w. w ++ u) (sym e) ∙ same ∙ ap (λ w. w ++ v) f in
    let is : m ≡ 0x5C = cc in
    absurd (no (itself_is m 0x5C i is))
one_name_byte m n s t u v (inr (h, l, e, are)) (inl (j, f)) same =
    let k : 0x5C ∷ 0x78 ∷ h ∷ l ∷ u ≡ n ∷ v = ap (λ w. w ++ u) (sym e) ∙ same ∙ ap (λ w. w ++ v) f in
    let is : n ≡ 0x5C = cc in
    absurd (no (itself_is n 0x5C j is))
one_name_byte m n s t u v (inr (h, l, e, are)) (inr (i, o, f, too)) same =
    let k : 0x5C ∷ 0x78 ∷ h ∷ l ∷ u ≡ 0x5C ∷ 0x78 ∷ i ∷ o ∷ v = ap (λ w. w ++ u) (sym e) ∙ same ∙ ap (λ w. w ++ v) f in
    let a : h ≡ i = cc in
    let b : l ≡ o = cc in
    (same_digits m n h l i o are too a b, cc)

-- the first byte of a name is by itself
pub byte_by_itself : (b first : ℕ) (text after front rest : Text) → text ≡ first ∷ after → stands_for_itself first ≡ true → text ≡ front ++ rest
    → SpellsNameByte b front → (first ≡ b) × (after ≡ rest)
byte_by_itself b first text after front rest begins itself is spelled =
    one_name_byte first b (first ∷ []) front after rest (inl (itself, refl)) spelled (sym begins ∙ is)

-- or by its digits
pub byte_by_digits : (b first : ℕ) (text after front rest : Text) → text ≡ first ∷ after → (stands_for_itself first ≡ true → ⊥)
    → text ≡ front ++ rest → SpellsNameByte b front
    → (high : ℕ) × (low : ℕ) × (first ≡ 0x5C) × (after ≡ 0x78 ∷ high ∷ low ∷ rest) × AreDigitsOf b high low
byte_by_digits b first text after front rest begins other is (inl (itself, e)) =
    let both : first ∷ after ≡ b ∷ rest = sym begins ∙ is ∙ ap (λ l. l ++ rest) e in
    let same : b ≡ first = cc in
    absurd (other (itself_is b first itself same))
byte_by_digits b first text after front rest begins other is (inr (high, low, e, are)) =
    let both : first ∷ after ≡ 0x5C ∷ 0x78 ∷ high ∷ low ∷ rest = sym begins ∙ is ∙ ap (λ l. l ++ rest) e in
    let one : first ≡ 0x5C = cc in
    let others : after ≡ 0x78 ∷ high ∷ low ∷ rest = cc in
    (high, low, one, others, are)

pub no_name_byte : (b : ℕ) (text front rest : Text) → text ≡ [] → text ≡ front ++ rest → SpellsNameByte b front → ⊥
no_name_byte b text front rest none is (inl (itself, e)) = let k : [] ≡ b ∷ rest = sym none ∙ is ∙ ap (λ l. l ++ rest) e in cc
no_name_byte b text front rest none is (inr (high, low, e, are)) =
    let k : [] ≡ 0x5C ∷ 0x78 ∷ high ∷ low ∷ rest = sym none ∙ is ∙ ap (λ l. l ++ rest) e in cc

-- ---- bytes by their digits

-- Where the text begins with the digits of bytes, and no digit follows them, these bytes are read first, and the others are still to be.
abbrev pub DigitsLeft : List ℕ → Text → Text → Type 0
DigitsLeft read text rest = (all : List ℕ) (front more : Text) → text ≡ front ++ more → SpellsDigits all front → Avoids IsHex more
    → (others : List ℕ) × (left : Text) × (all ≡ read ++ others) × (rest ≡ left ++ more) × SpellsDigits others left

pub all_digits_left : (items : List ℕ) (text : Text) → items ≡ [] → DigitsLeft items text text
all_digits_left items text none = λ all front more is spelled ends. (all, front, ap (λ l. l ++ all) (sym none), is, spelled)

pub digits_begun : (items : List ℕ) (text : Text) → items ≡ [] → IsDigitsFront items text text
digits_begun items text none = subst (λ (l : List ℕ). IsDigitsFront l text text) (sym none) (no_digits text)

pub less_digits_left : (read items : List ℕ) (b high low : ℕ) (text rest after : Text) → DigitsLeft read text rest → items ≡ read ++ b ∷ []
    → rest ≡ high ∷ low ∷ after → AreDigitsOf b high low → DigitsLeft items text after
less_digits_left read items b high low text rest after before pushed is are = λ all front more text_is spelled ends.
    let (others, left, same, rest_is, left_spelled) = before all front more text_is spelled ends in
    go all others left more same rest_is left_spelled ends
  where
    go : (all others : List ℕ) (left more : Text) → all ≡ read ++ others → rest ≡ left ++ more → SpellsDigits others left → Avoids IsHex more
        → (later : List ℕ) × (back : Text) × (all ≡ items ++ later) × (after ≡ back ++ more) × SpellsDigits later back
    go all [] left more same rest_is none ends =
        let begins : more ≡ high ∷ (low ∷ after) = ap (λ l. l ++ more) (sym none) ∙ sym rest_is ∙ is in
        absurd (ends high (low ∷ after) begins (b / 16, are.0))
    go all (o ∷ later) left more same rest_is (h, l, back, e, here, spelled) ends =
        let both : high ∷ (low ∷ after) ≡ h ∷ (l ∷ (back ++ more)) = sym is ∙ rest_is ∙ ap (λ w. w ++ more) e in
        let first : high ≡ h = cc in
        let second : low ≡ l = cc in
        let on : after ≡ back ++ more = cc in
        let byte_is : b ≡ o = same_digits b o high low h l are here first second in (
          later,
          back,
          same ∙ ap (λ n. read ++ n ∷ later) (sym byte_is) ∙ sym (append_assoc read (b ∷ []) later)
              ∙ ap (λ w. w ++ later) (sym pushed),
          on,
          spelled,
        )

-- no two digits are next
pub no_digits_left : (read : List ℕ) (text rest : Text) → DigitsLeft read text rest
    → ((b high low : ℕ) (after : Text) → rest ≡ high ∷ low ∷ after → AreDigitsOf b high low → ⊥) → TakesDigits read text rest
no_digits_left read text rest before none = λ all front more is spelled ends.
    let (others, left, same, rest_is, left_spelled) = before all front more is spelled ends in
    go others left same rest_is left_spelled
  where
    go : {all : List ℕ} {more : Text} (others : List ℕ) (left : Text) → all ≡ read ++ others → rest ≡ left ++ more → SpellsDigits others left
        → (read ≡ all) × (rest ≡ more)
    go {all} {more} [] left same rest_is nothing =
        (sym (append-nil read) ∙ sym same, rest_is ∙ ap (λ l. l ++ more) nothing)
    go {all} {more} (o ∷ others) left same rest_is (h, l, back, e, here, spelled) =
        absurd (none o h l (back ++ more) (rest_is ∙ ap (λ w. w ++ more) e) here)

abbrev pub Spelled : ℕ × List ℕ → Text → Type 0
Spelled bytes text = SpellsDigits (bytes.0 ∷ bytes.1) text

no_hex_ends : IsEnded NoHex (Avoids IsHex)
no_hex_ends more rest spaces end tail spelled are line_end =
    avoids_after IsHex rest spaces end (no_hex_spelled more tail rest spelled) are line_end (λ h. no_digit 32 h) (λ h. no_feed h)
  where
    no_digit : (n : ℕ) → IsHex 32 → ⊥
    no_digit n (d, e) = cc

    no_feed : IsHex 10 → ⊥
    no_feed (d, e) = cc

-- the digits of bytes are passed, or are missing
hex_piece : (x : ℕ × List ℕ) {a b : Place} → ReadsText Spelled (Avoids IsHex) x a b
    → ReadsLoosely (λ (bs : ℕ × List ℕ). digits (bs.0 ∷ bs.1) ∷ []) NoHex x a b
hex_piece x {a} {b} read = piece_read (λ (bs : ℕ × List ℕ). digits (bs.0 ∷ bs.1)) Spelled (Avoids IsHex) NoHex x x x read (stays b)
    (λ front spelled. spelled) (λ z front spelled. (z, spelled, λ e. e)) (λ sound front spelled. refl) (λ sound right. refl) no_hex_ends

pub hex_missing : {a b : Place} (bytes : List ℕ) (text after : Text) → text ≡ a.rest → TakesDigits bytes text after → length bytes ≡ 0
    → Fails a b → ReadsHex [] a b
hex_missing {a} {b} bytes text after is takes none f =
    let nothing : bytes ≡ [] = empty bytes none in
    record {
      first = 0;
      others = [];
      is = λ sound. absurd (failed_bad f sound);
      reads = hex_piece (0, []) (text_missing Spelled (Avoids IsHex) (0, []) f (λ x front rest is_front spelled ends.
          let (same, left) = takes (x.0 ∷ x.1) front rest (is ∙ is_front) spelled ends in
          let k : [] ≡ x.0 ∷ x.1 = sym nothing ∙ same in
          cc));
    }

pub hex_read : {a b : Place} (bytes : List ℕ) (text after : Text) → text ≡ a.rest → IsDigitsFront bytes text after → TakesDigits bytes text after
    → 0 < length bytes → b.rest ≡ after → b.column + length after ≡ a.column + length a.rest → b.line ≡ a.line → b.error ≡ a.error
    → ReadsHex bytes a b
hex_read {a} {b} [] text after is front takes some rest column line error = absurd (omega (arith, some))
hex_read {a} {b} (x ∷ xs) text after is front takes some rest column line error = record {
  first = x;
  others = xs;
  is = λ sound. refl;
  reads = hex_piece (x, xs) (text_read Spelled (Avoids IsHex) (x, xs) (moves_over front.front after (sym is ∙ front.is) rest column line error)
      error front.front (sym is ∙ front.is ∙ ap (λ l. front.front ++ l) (sym rest)) front.spelled (λ z other more is_other spelled ends.
      let (same, left) = takes (z.0 ∷ z.1) other more (is ∙ is_other) spelled ends in
      let head : z.0 ≡ x = cc in
      let tail : z.1 ≡ xs = cc in
      let pair : z ≡ (x, xs) = λ i. (head i, tail i) in
      (pair, rest ∙ left)));
}

-- where no piece is missing, there is a byte
pub hex_some : {bytes : List ℕ} {a b : Place} → ReadsHex bytes a b → IsSound b → bytes ≡ [] → ⊥
hex_some {bytes} read sound none = let k : [] ≡ read.first ∷ read.others = sym none ∙ read.is sound in cc

pub hex_exactly : {bytes : List ℕ} {a b : Place} → ReadsHex bytes a b → Reads (digits bytes ∷ []) a b
hex_exactly {bytes} {a} {b} read = record {
  read = λ right. subst (λ (bs : List ℕ). ReadsRight (digits bs ∷ []) a b) (sym (read.is (right_is_sound b right)))
      ((reads_exactly read.reads).read right);
}

-- ---- names

-- The same of the bytes of a name, with the quote that closes it.
abbrev pub NameLeft : List ℕ → Text → Text → Type 0
NameLeft read text rest = (all : List ℕ) (inside more : Text) → text ≡ inside ++ 0x22 ∷ more → SpellsNameBytes all inside
    → (others : List ℕ) × (left : Text) × (all ≡ read ++ others) × (rest ≡ left ++ 0x22 ∷ more) × SpellsNameBytes others left

pub all_name_left : (items : List ℕ) (text : Text) → items ≡ [] → NameLeft items text text
all_name_left items text none = λ all inside more is spelled. (all, inside, ap (λ l. l ++ all) (sym none), is, spelled)

pub name_begun : (items : List ℕ) (text : Text) → items ≡ [] → IsNameFront items text text
name_begun items text none = subst (λ (l : List ℕ). IsNameFront l text text) (sym none) (no_name text)

-- one byte more of a name is read
pub less_name_left : (read items : List ℕ) (b first : ℕ) (text rest after next : Text) → NameLeft read text rest → items ≡ read ++ b ∷ []
    → rest ≡ first ∷ after → (first ≡ 0x22 → ⊥) → (front : Text) × (rest ≡ front ++ next) × SpellsNameByte b front → NameLeft items text next
less_name_left read items b first text rest after next before pushed begins other (front, is, here) = λ all inside more text_is spelled.
    let (others, left, same, rest_is, left_spelled) = before all inside more text_is spelled in
    go all others left more same rest_is left_spelled
  where
    go : (all others : List ℕ) (left more : Text) → all ≡ read ++ others → rest ≡ left ++ 0x22 ∷ more → SpellsNameBytes others left
        → (later : List ℕ) × (back : Text) × (all ≡ items ++ later) × (next ≡ back ++ 0x22 ∷ more) × SpellsNameBytes later back
    go all [] left more same rest_is none =
        let quote : first ∷ after ≡ 0x22 ∷ more = sym begins ∙ rest_is ∙ ap (λ l. l ++ 0x22 ∷ more) none in
        absurd (other cc)
    go all (o ∷ later) left more same rest_is (g, back, e, there, spelled) =
        let both : front ++ next ≡ g ++ (back ++ 0x22 ∷ more) =
        sym is ∙ rest_is ∙ ap (λ l. l ++ 0x22 ∷ more) e ∙ append_assoc g back (0x22 ∷ more) in
        let (byte_is, on) = one_name_byte b o front g next (back ++ 0x22 ∷ more) here there both in (
          later,
          back,
          same ∙ ap (λ n. read ++ n ∷ later) (sym byte_is) ∙ sym (append_assoc read (b ∷ []) later)
              ∙ ap (λ w. w ++ later) (sym pushed),
          on,
          spelled,
        )

-- the quote is next that closes a name
pub name_ended : (read all : List ℕ) (text rest after inside more : Text) → NameLeft read text rest → rest ≡ 0x22 ∷ after
    → text ≡ inside ++ 0x22 ∷ more → SpellsNameBytes all inside → (read ≡ all) × (after ≡ more)
name_ended read all text rest after inside more before begins is spelled =
    let (others, left, same, rest_is, left_spelled) = before all inside more is spelled in
    go others left same rest_is left_spelled
  where
    go : (others : List ℕ) (left : Text) → all ≡ read ++ others → rest ≡ left ++ 0x22 ∷ more → SpellsNameBytes others left
        → (read ≡ all) × (after ≡ more)
    go [] left same rest_is none =
        let both : 0x22 ∷ after ≡ 0x22 ∷ more = sym begins ∙ rest_is ∙ ap (λ l. l ++ 0x22 ∷ more) none in
        (sym (append-nil read) ∙ sym same, cc)
    go (o ∷ others) left same rest_is (g, back, e, there, more_spelled) =
        absurd (no_quote o g (back ++ 0x22 ∷ more) after there
        (sym (append_assoc g back (0x22 ∷ more)) ∙ ap (λ l. l ++ 0x22 ∷ more) (sym e) ∙ sym rest_is ∙ begins))

-- neither a quote nor a byte of a name is next
pub no_name_left : (read all : List ℕ) (text rest inside more : Text) → NameLeft read text rest → ((after : Text) → rest ≡ 0x22 ∷ after → ⊥)
    → ((b : ℕ) (front after : Text) → rest ≡ front ++ after → SpellsNameByte b front → ⊥) → text ≡ inside ++ 0x22 ∷ more
    → SpellsNameBytes all inside → ⊥
no_name_left read all text rest inside more before no_end none is spelled =
    let (others, left, same, rest_is, left_spelled) = before all inside more is spelled in
    go others left rest_is left_spelled
  where
    go : (others : List ℕ) (left : Text) → rest ≡ left ++ 0x22 ∷ more → SpellsNameBytes others left → ⊥
    go [] left rest_is nothing = no_end more (rest_is ∙ ap (λ l. l ++ 0x22 ∷ more) nothing)
    go (o ∷ others) left rest_is (g, back, e, there, more_spelled) =
        none o g (back ++ 0x22 ∷ more) (rest_is ∙ ap (λ l. l ++ 0x22 ∷ more) e ∙ append_assoc g back (0x22 ∷ more)) there

pub no_text_left : (read all : List ℕ) (text rest inside more : Text) → NameLeft read text rest → rest ≡ [] → text ≡ inside ++ 0x22 ∷ more
    → SpellsNameBytes all inside → ⊥
no_text_left read all text rest inside more before ended is spelled =
    let (others, left, same, rest_is, left_spelled) = before all inside more is spelled in
    let k : 0x22 ∷ more ≡ [] = no_rest left (0x22 ∷ more) (sym rest_is ∙ ended) in
    cc

-- ---- names in quotes

pub quoted_inside : (bytes : List ℕ) (text inside front rest : Text) (first : ℕ) → text ≡ first ∷ inside → text ≡ front ++ rest → SpellsName bytes front
    → (first ≡ 0x22) × ((within : Text) × (inside ≡ within ++ 0x22 ∷ rest) × SpellsNameBytes bytes within)
quoted_inside bytes text inside front rest first begins is (within, e, spelled) =
    let both : first ∷ inside ≡ 0x22 ∷ ((within ++ 0x22 ∷ []) ++ rest) = sym begins ∙ is ∙ ap (λ l. l ++ rest) e in
    let same : inside ≡ (within ++ 0x22 ∷ []) ++ rest = cc in
    (cc, (within, same ∙ append_assoc within (0x22 ∷ []) rest, spelled))

pub no_quoted : (bytes front rest text : Text) → text ≡ [] → text ≡ front ++ rest → SpellsName bytes front → ⊥
no_quoted bytes front rest text none is (within, e, spelled) =
    let k : [] ≡ 0x22 ∷ ((within ++ 0x22 ∷ []) ++ rest) = sym none ∙ is ∙ ap (λ l. l ++ rest) e in cc

pub quoted_front : {P E : Type 0} (r : Result (Option P) E) (items : P → List ℕ) (left : P → Text) (text inside : Text) → text ≡ 0x22 ∷ inside
    → IfOk r (λ o. IfSome o (λ p. IsNameFront (items p) inside (0x22 ∷ left p))) → IfOk r (λ o. IfSome o (λ p. IsQuotedFront (items p) text (left p)))
quoted_front (Ok (Some p)) items left text inside begins front = name_closed (items p) text inside (left p) begins front
quoted_front (Ok None) items left text inside begins front = tt
quoted_front (Err e) items left text inside begins front = tt

name_from : (bytes : List ℕ) {a b : Place} → ReadsText SpellsName AnyText bytes a b → ReadsName bytes a b
name_from bytes {a} {b} read = piece_read name SpellsName AnyText Anything bytes bytes bytes read (stays b)
    (λ front spelled. spelled) (λ z front spelled. (z, spelled, λ e. e)) (λ sound front spelled. refl) (λ sound right. refl) any_ends

pub name_missing : (bytes : List ℕ) {a b : Place} → Fails a b → ((x front rest : List ℕ) → a.rest ≡ front ++ rest → SpellsName x front → ⊥)
    → ReadsName bytes a b
name_missing bytes f none = name_from bytes (text_missing SpellsName AnyText bytes f (λ x front rest is spelled ends. none x front rest is spelled))

pub name_read : (bytes after : List ℕ) {a b : Place} → IsQuotedFront bytes a.rest after
    → ((x front rest : List ℕ) → a.rest ≡ front ++ rest → SpellsName x front → (bytes ≡ x) × (after ≡ rest)) → b.rest ≡ after
    → b.column + length after ≡ a.column + length a.rest → b.line ≡ a.line → b.error ≡ a.error → ReadsName bytes a b
name_read bytes after {a} {b} (front, is, spelled) takes rest column line error = name_from bytes
    (text_read SpellsName AnyText bytes (moves_over front after is rest column line error) error front
    (is ∙ ap (λ l. front ++ l) (sym rest)) spelled (λ x other more is_other other_spelled ends.
    let (same, left) = takes x other more is_other other_spelled in (sym same, rest ∙ left)))

pub name_shorter : {bytes : List ℕ} {a b : Place} → ReadsName bytes a b → IsSound b → length b.rest < length a.rest
name_shorter {bytes} {a} {b} read sound =
    let (next, one, same) = read.passes sound in
    let (inside, e, spelled) = one.spelled in
    let long = longer one.front next.rest a.rest one.is in
    let some : length one.front ≡ length (0x22 ∷ (inside ++ 0x22 ∷ [])) = ap length e in
    let here : length next.rest ≡ length b.rest = ap (λ (p : Place). length p.rest) same in
    omega (arith, long, some, here)

-- ---- what is made of bytes

pub made : {E : Type 0} (P : List ℕ → Type 0) (r : Result (List ℕ) E) (slice bytes : List ℕ) → IfOk r (λ b. b ≡ slice) → slice ≡ bytes → P bytes
    → IfOk r P
made P (Ok b) slice bytes same is here = subst P (sym (same ∙ is)) here
made P (Err e) slice bytes same is here = tt

pub on_any : {T E P : Type 0} (r : Result T E) → P → OnOk r P
on_any (Ok x) p = p
on_any (Err e) p = tt
