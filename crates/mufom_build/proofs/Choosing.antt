-- Words of which one is chosen by the first byte.
use Rattle.std.proofs.Common.{◌≡◌, ℕ, ◌<◌, ◌==◌, Bool, true, false, List, [], ◌∷◌, ◌++◌, length, codes, Option, Some, None, refl, sym, ap, subst, ◌∙◌}
use Rattle.std.proofs.Common.{arith}
use Rattle.mufom_expr.specs.declared.token.FieldKind.{FieldKind}
use Rattle.mufom_expr.specs.declared.token.FieldKind.TheVariants as kinds
use Rattle.mufom_sections.specs.declared.section.Purpose.{Purpose}
use Rattle.mufom_sections.specs.declared.section.Purpose.TheVariants as purposes
use Rattle.mufom_module.specs.declared.module.Order.{Order}
use Rattle.mufom_module.specs.declared.module.Order.TheVariants as orders
use Rattle.mufom_text.specs.Words.{Text}
use Rattle.mufom_text.specs.Show.{order_letter, type_letters, purpose_letter, kind_text}
use Rattle.mufom_build_text.specs.Loosely.{Goes, ReadsLoosely, ReadsWords, Follows, IsFront, Anything, Nothing}
use Rattle.mufom_build_text.specs.Pieces.{Piece, byte, gap, words, AreSpaces}
use Rattle.mufom_build_text.specs.Reads.{Place}
use Rattle.mufom_build_text.proofs.Loosely.{no_words}
use Rattle.mufom_build.specs.ReadKinds.{BeginsWithSpace}

-- ---- by the first byte

begins : (v : ℕ) (ps : List Piece) {a : Place} → Goes (byte v ∷ ps) a → (rest : Text) × (a.rest ≡ v ∷ rest)
begins v ps {a} goes =
    let (first, rest, e, f, others) = goes.spelled in
    (rest ++ (goes.spaces ++ goes.end), goes.is ∙ ap (λ l. l ++ (goes.spaces ++ goes.end)) (e ∙ ap (λ l. l ++ rest) f))

some_space : (first : Text) → 0 < length first → AreSpaces first → (more : Text) × (first ≡ 32 ∷ more)
some_space [] some are = absurd (omega (arith, some))
some_space (x ∷ first) some (here, are) = (first, ap (λ b. b ∷ first) here)

begins_with_space : (ps : List Piece) {a : Place} → Goes (gap ∷ ps) a → (rest : Text) × (a.rest ≡ 32 ∷ rest)
begins_with_space ps {a} goes =
    let (first, rest, e, (some, are), others) = goes.spelled in
    let (more, f) = some_space first some are in (
      (more ++ rest) ++ (goes.spaces ++ goes.end),
      goes.is ∙ ap (λ l. l ++ (goes.spaces ++ goes.end)) (e ∙ ap (λ l. l ++ rest) f),
    )

-- where this byte is first, no line goes on with another one
pub other_first : (v w : ℕ) (ps : List Piece) {a : Place} → (v == w) ≡ false → IsFront (v ∷ []) a.rest → Goes (byte w ∷ ps) a → ⊥
other_first v w ps {a} differ (rest, is) goes =
    let (more, e) = begins w ps goes in
    let h : v ∷ rest ≡ w ∷ more = sym is ∙ e in
    let same : v ≡ w = cc in
    let k : (w == w) ≡ false = subst (λ (x : ℕ). (x == w) ≡ false) same differ in
    grind arith

pub space_first : (v : ℕ) (ps : List Piece) {a : Place} → (v == 32) ≡ false → IsFront (v ∷ []) a.rest → Goes (gap ∷ ps) a → ⊥
space_first v ps {a} differ (rest, is) goes =
    let (more, e) = begins_with_space ps goes in
    let h : v ∷ rest ≡ 32 ∷ more = sym is ∙ e in
    let same : v ≡ 32 = cc in
    let k : (32 == 32) ≡ false = subst (λ (x : ℕ). (x == 32) ≡ false) same differ in
    cc

pub not_first : (v : ℕ) (ps : List Piece) {a : Place} → (IsFront (v ∷ []) a.rest → ⊥) → Goes (byte v ∷ ps) a → ⊥
not_first v ps none goes = none (begins v ps goes)

-- ---- one of several words

-- The word of one value is read, and the line goes on with that of no other value.
pub chosen : {X : Type 0} (text_of : X → Text) (Tail : List Piece → Type 0) (x : X) {a b : Place} → ReadsWords (text_of x) a b
    → ((more : List Piece) → Tail more → Follows (text_of x) more)
    → ((z : X) (more : List Piece) → Tail more → Goes (words (text_of z) ++ more) a → z ≡ x)
    → ReadsLoosely (λ (z : X). words (text_of z)) Tail x a b
chosen {X} text_of Tail x {a} {b} read follows only = record {
  value = x;
  moves = read.moves;
  passes = read.passes;
  same = λ right. refl;
  takes = λ z more tail goes.
      let same = only z more tail goes in
      let here = subst (λ (y : X). Goes (words (text_of y) ++ more) a) same goes in
      (same, (read.takes tt more (follows more tail) here).1);
}

-- ---- the order of bytes

pub least_read : {a b : Place} → IsFront (codes "L") a.rest → ReadsWords (codes "L") a b
    → ReadsLoosely (λ (z : Order). words (order_letter z)) Nothing orders.Least a b
least_read {a} {b} front read = chosen order_letter Nothing orders.Least read (λ more tail. refl) only
  where
    only : (z : Order) (more : List Piece) → Nothing more → Goes (words (order_letter z) ++ more) a → z ≡ orders.Least
    only orders.Least more tail goes = refl
    only orders.Most more tail goes = absurd (other_first 76 77 more refl front goes)

pub most_read : {a b : Place} → (IsFront (codes "L") a.rest → ⊥) → ReadsWords (codes "M") a b
    → ReadsLoosely (λ (z : Order). words (order_letter z)) Nothing orders.Most a b
most_read {a} {b} none read = chosen order_letter Nothing orders.Most read (λ more tail. refl) only
  where
    only : (z : Order) (more : List Piece) → Nothing more → Goes (words (order_letter z) ++ more) a → z ≡ orders.Most
    only orders.Least more tail goes = absurd (not_first 76 more none goes)
    only orders.Most more tail goes = refl

-- ---- whether a section is absolute

pub common_read : {a b : Place} → IsFront (codes "C") a.rest → ReadsWords (codes "C") a b
    → ReadsLoosely (λ (z : Bool). words (type_letters z)) Anything false a b
common_read {a} {b} front read = chosen type_letters Anything false read (λ more tail. refl) only
  where
    only : (z : Bool) (more : List Piece) → Anything more → Goes (words (type_letters z) ++ more) a → z ≡ false
    only false more tail goes = refl
    only true more tail goes = absurd (other_first 67 65 (byte 83 ∷ more) refl front goes)

pub absolute_read : {a b : Place} → (IsFront (codes "C") a.rest → ⊥) → ReadsWords (codes "AS") a b
    → ReadsLoosely (λ (z : Bool). words (type_letters z)) Anything true a b
absolute_read {a} {b} none read = chosen type_letters Anything true read (λ more tail. refl) only
  where
    only : (z : Bool) (more : List Piece) → Anything more → Goes (words (type_letters z) ++ more) a → z ≡ true
    only false more tail goes = absurd (not_first 67 more none goes)
    only true more tail goes = refl

-- ---- what a section is for

abbrev ReadsPurpose : Option Purpose → Place → Place → Type 0
ReadsPurpose p a b = ReadsLoosely (λ (z : Option Purpose). words (purpose_letter z)) BeginsWithSpace p a b

no_letter : (v : ℕ) (more : List Piece) {a : Place} → (v == 32) ≡ false → IsFront (v ∷ []) a.rest → BeginsWithSpace more → Goes more a → ⊥
no_letter v more {a} differ front (rest, is) goes = space_first v rest differ front (subst (λ (l : List Piece). Goes l a) is goes)

pub code_read : {a b : Place} → IsFront (codes "P") a.rest → ReadsWords (codes "P") a b → ReadsPurpose (Some purposes.Code) a b
code_read {a} {b} front read = chosen purpose_letter BeginsWithSpace (Some purposes.Code) read (λ more tail. refl) only
  where
    only : (z : Option Purpose) (more : List Piece) → BeginsWithSpace more → Goes (words (purpose_letter z) ++ more) a → z ≡ Some purposes.Code
    only None more tail goes = absurd (no_letter 80 more refl front tail goes)
    only (Some purposes.Code) more tail goes = refl
    only (Some purposes.Data) more tail goes = absurd (other_first 80 68 more refl front goes)
    only (Some purposes.Rom) more tail goes = absurd (other_first 80 82 more refl front goes)

pub data_read : {a b : Place} → IsFront (codes "D") a.rest → ReadsWords (codes "D") a b → ReadsPurpose (Some purposes.Data) a b
data_read {a} {b} front read = chosen purpose_letter BeginsWithSpace (Some purposes.Data) read (λ more tail. refl) only
  where
    only : (z : Option Purpose) (more : List Piece) → BeginsWithSpace more → Goes (words (purpose_letter z) ++ more) a → z ≡ Some purposes.Data
    only None more tail goes = absurd (no_letter 68 more refl front tail goes)
    only (Some purposes.Code) more tail goes = absurd (other_first 68 80 more refl front goes)
    only (Some purposes.Data) more tail goes = refl
    only (Some purposes.Rom) more tail goes = absurd (other_first 68 82 more refl front goes)

pub rom_read : {a b : Place} → IsFront (codes "R") a.rest → ReadsWords (codes "R") a b → ReadsPurpose (Some purposes.Rom) a b
rom_read {a} {b} front read = chosen purpose_letter BeginsWithSpace (Some purposes.Rom) read (λ more tail. refl) only
  where
    only : (z : Option Purpose) (more : List Piece) → BeginsWithSpace more → Goes (words (purpose_letter z) ++ more) a → z ≡ Some purposes.Rom
    only None more tail goes = absurd (no_letter 82 more refl front tail goes)
    only (Some purposes.Code) more tail goes = absurd (other_first 82 80 more refl front goes)
    only (Some purposes.Data) more tail goes = absurd (other_first 82 68 more refl front goes)
    only (Some purposes.Rom) more tail goes = refl

pub no_purpose_read : {a : Place} → (IsFront (codes "P") a.rest → ⊥) → (IsFront (codes "D") a.rest → ⊥) → (IsFront (codes "R") a.rest → ⊥)
    → ReadsPurpose None a a
no_purpose_read {a} no_code no_data no_rom = chosen purpose_letter BeginsWithSpace None (no_words a) (λ more tail. refl) only
  where
    only : (z : Option Purpose) (more : List Piece) → BeginsWithSpace more → Goes (words (purpose_letter z) ++ more) a → z ≡ None
    only None more tail goes = refl
    only (Some purposes.Code) more tail goes = absurd (not_first 80 more no_code goes)
    only (Some purposes.Data) more tail goes = absurd (not_first 68 more no_data goes)
    only (Some purposes.Rom) more tail goes = absurd (not_first 82 more no_rom goes)

-- ---- how the value of a field is read

abbrev ReadsKind : FieldKind → Place → Place → Type 0
ReadsKind k a b = ReadsLoosely (λ (z : FieldKind). words (kind_text z)) Anything k a b

pub signed_read : {a b : Place} → IsFront (codes "s") a.rest → ReadsWords (codes "signed") a b → ReadsKind kinds.Signed a b
signed_read {a} {b} front read = chosen kind_text Anything kinds.Signed read (λ more tail. refl) only
  where
    only : (z : FieldKind) (more : List Piece) → Anything more → Goes (words (kind_text z) ++ more) a → z ≡ kinds.Signed
    only kinds.Signed more tail goes = refl
    only kinds.Unsigned more tail goes = absurd (other_first 115 117 _ refl front goes)
    only kinds.Either more tail goes = absurd (other_first 115 101 _ refl front goes)

pub unsigned_read : {a b : Place} → IsFront (codes "u") a.rest → ReadsWords (codes "unsigned") a b → ReadsKind kinds.Unsigned a b
unsigned_read {a} {b} front read = chosen kind_text Anything kinds.Unsigned read (λ more tail. refl) only
  where
    only : (z : FieldKind) (more : List Piece) → Anything more → Goes (words (kind_text z) ++ more) a → z ≡ kinds.Unsigned
    only kinds.Signed more tail goes = absurd (other_first 117 115 _ refl front goes)
    only kinds.Unsigned more tail goes = refl
    only kinds.Either more tail goes = absurd (other_first 117 101 _ refl front goes)

pub either_read : {a b : Place} → (IsFront (codes "s") a.rest → ⊥) → (IsFront (codes "u") a.rest → ⊥) → ReadsWords (codes "either") a b
    → ReadsKind kinds.Either a b
either_read {a} {b} no_signed no_unsigned read = chosen kind_text Anything kinds.Either read (λ more tail. refl) only
  where
    only : (z : FieldKind) (more : List Piece) → Anything more → Goes (words (kind_text z) ++ more) a → z ≡ kinds.Either
    only kinds.Signed more tail goes = absurd (not_first 115 _ no_signed goes)
    only kinds.Unsigned more tail goes = absurd (not_first 117 _ no_unsigned goes)
    only kinds.Either more tail goes = refl
