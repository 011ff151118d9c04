-- Fronts of a text that grow by what comes next.
use Rattle.std.proofs.Common.{◌≡◌, ℕ, List, [], ◌∷◌, ◌++◌, refl, sym, ap, subst, ◌∙◌, inl, inr, ◌⊎◌, append_assoc, append-nil}
use Rattle.std.specs.List.{AllByRecursion}
use Rattle.std.specs.Prelude.{IsTrue}
use Rattle.mufom_text.specs.Words.{Text, stands_for_itself}
use Rattle.mufom_build_text.specs.Pieces.{AreDigitsOf, SpellsDigits, SpellsNameByte, SpellsNameBytes, SpellsName}
use Rattle.mufom_build_text.specs.Reads.{IsSpaceFront, IsBlankFront, IsDigitsFront, IsNameFront}

-- a front and more
joined : (text front more rest : Text) → text ≡ front ++ (more ++ rest) → text ≡ (front ++ more) ++ rest
joined text front more rest is = is ∙ sym (append_assoc front more rest)

all_more : (P : ℕ → Type 0) (front : Text) (b : ℕ) → AllByRecursion P front → P b → AllByRecursion P (front ++ b ∷ [])
all_more P [] b none here = (here, tt)
all_more P (x ∷ front) b (first, rest) here = (first, all_more P front b rest here)

pub no_spaces : (text : Text) → IsSpaceFront text text
no_spaces text = record { front = []; is = refl; spaces = tt }

pub space_more : (text rest after : Text) → IsSpaceFront text rest → rest ≡ 32 ∷ after → IsSpaceFront text after
space_more text rest after f e = record {
  front = f.front ++ 32 ∷ [];
  is = joined text f.front (32 ∷ []) after (f.is ∙ ap (λ l. f.front ++ l) e);
  spaces = all_more (λ b. b ≡ 32) f.front 32 f.spaces refl;
}

pub no_blanks : (text : Text) → IsBlankFront text text
no_blanks text = record { front = []; is = refl; blank = tt }

pub blank_more : (text rest after : Text) (b : ℕ) → IsBlankFront text rest → rest ≡ b ∷ after → (b ≡ 32) ⊎ (b ≡ 10) → IsBlankFront text after
blank_more text rest after b f e is_blank = record {
  front = f.front ++ b ∷ [];
  is = joined text f.front (b ∷ []) after (f.is ∙ ap (λ l. f.front ++ l) e);
  blank = all_more (λ x. (x ≡ 32) ⊎ (x ≡ 10)) f.front b f.blank is_blank;
}

pub no_digits : (text : Text) → IsDigitsFront [] text text
no_digits text = record { front = []; is = refl; spelled = refl }

digits_more : (bytes : List ℕ) (b high low : ℕ) (front : Text) → SpellsDigits bytes front → AreDigitsOf b high low
    → SpellsDigits (bytes ++ b ∷ []) (front ++ high ∷ low ∷ [])
digits_more [] b high low front none are = subst (λ (l : Text). SpellsDigits (b ∷ []) (l ++ high ∷ low ∷ [])) (sym none)
    (high, low, [], refl, are, refl)
digits_more (x ∷ bytes) b high low front (h, l, rest, is, first, more) are =
    (h, l, rest ++ high ∷ low ∷ [], ap (λ t. t ++ high ∷ low ∷ []) is, first, digits_more bytes b high low rest more are)

pub digit_more : (bytes : List ℕ) (b high low : ℕ) (text rest after : Text) → IsDigitsFront bytes text rest → rest ≡ high ∷ low ∷ after
    → AreDigitsOf b high low → IsDigitsFront (bytes ++ b ∷ []) text after
digit_more bytes b high low text rest after f e are = record {
  front = f.front ++ high ∷ low ∷ [];
  is = joined text f.front (high ∷ low ∷ []) after (f.is ∙ ap (λ l. f.front ++ l) e);
  spelled = digits_more bytes b high low f.front f.spelled are;
}

pub no_name : (text : Text) → IsNameFront [] text text
no_name text = record { front = []; is = refl; spelled = refl }

name_bytes_more : (bytes : List ℕ) (b : ℕ) (front more : Text) → SpellsNameBytes bytes front → SpellsNameByte b more
    → SpellsNameBytes (bytes ++ b ∷ []) (front ++ more)
name_bytes_more [] b front more none spelled =
    subst (λ (l : Text). SpellsNameBytes (b ∷ []) (l ++ more)) (sym none) (more, [], sym (append-nil more), spelled, refl)
name_bytes_more (x ∷ bytes) b front more (first, rest, is, here, others) spelled =
    (first, rest ++ more, ap (λ t. t ++ more) is ∙ append_assoc first rest more, here, name_bytes_more bytes b rest more others spelled)

pub name_more : (bytes : List ℕ) (b : ℕ) (text rest after more : Text) → IsNameFront bytes text rest → rest ≡ more ++ after
    → SpellsNameByte b more → IsNameFront (bytes ++ b ∷ []) text after
name_more bytes b text rest after more f e spelled = record {
  front = f.front ++ more;
  is = joined text f.front more after (f.is ∙ ap (λ l. f.front ++ l) e);
  spelled = name_bytes_more bytes b f.front more f.spelled spelled;
}

-- the bytes of a name between its quotes spell the name
pub name_closed : (bytes : List ℕ) (text inside after : Text) → text ≡ 0x22 ∷ inside → IsNameFront bytes inside (0x22 ∷ after)
    → (front : Text) × (text ≡ front ++ after) × SpellsName bytes front
name_closed bytes text inside after e f = (
  0x22 ∷ (f.front ++ 0x22 ∷ []),
  e ∙ ap (λ l. 0x22 ∷ l) (f.is ∙ sym (append_assoc f.front (0x22 ∷ []) after)),
  (f.front, refl, f.spelled),
)

-- a byte of a name by itself
pub by_itself : (b : ℕ) (text after : Text) → text ≡ b ∷ after → IsTrue (stands_for_itself b)
    → (front : Text) × (text ≡ front ++ after) × SpellsNameByte b front
by_itself b text after is itself = (b ∷ [], is, inl (itself, refl))

-- a byte of a name by its digits
pub by_digits : (b : ℕ) (text tail digits after : Text) → text ≡ 0x5C ∷ tail → tail ≡ 0x78 ∷ digits
    → (high : ℕ) × (low : ℕ) × (digits ≡ high ∷ low ∷ after) × AreDigitsOf b high low
    → (front : Text) × (text ≡ front ++ after) × SpellsNameByte b front
by_digits b text tail digits after first second (high, low, is, are) =
    (0x5C ∷ 0x78 ∷ high ∷ low ∷ [], first ∙ ap (λ l. 0x5C ∷ l) (second ∙ ap (λ l. 0x78 ∷ l) is), inr (high, low, refl, are))
