-- One more step of a walk over numbered sections.
use Rattle.std.proofs.Common.{◌≡◌, ℕ, ◌+◌, ◌<◌, ◌≤◌, List, [], ◌∷◌, ◌++◌, length, take, drop, get_or, Some, None, Option, true, false, refl, sym, ap}
use Rattle.std.proofs.Common.{◌∙◌, arith}
use Rattle.std.specs.Prelude.{is_some, is_none}
use Rattle.std.proofs.lemmas.List.{drop_all, drop_more, take_more}
use Rattle.std.proofs.lemmas.List.FromFn.{length-enumerate_from, get_or-enumerate_from}
use Rattle.mufom_sections.specs.declared.section.Section.{Section}
use Rattle.mufom_place.specs.Bases.{Numbered, numbered}
use Rattle.mufom_place.specs.Facts.{first_some, ◌or_else◌}

-- the section at a position with that position
numbered_at : (sections : List Section) (i : ℕ) (section : Section) → i < length sections → section ≡ get_or sections i section
    → get_or (numbered sections) i (i, section) ≡ (i, section)
numbered_at sections i section h is = let none : 0 + i ≡ i = omega arith in get_or-enumerate_from 0 sections i (i, section) h ∙ (λ j. (none j, sym is j))

numbered_long : (sections : List Section) (i : ℕ) → i < length sections → i < length (numbered sections)
numbered_long sections i h = let same = length-enumerate_from 0 sections in omega (arith, same)

pub drop-numbered : (sections : List Section) (i : ℕ) (section : Section) → i < length sections → section ≡ get_or sections i section
    → drop i (numbered sections) ≡ (i, section) ∷ drop (i + 1) (numbered sections)
drop-numbered sections i section h is = drop_more (numbered sections) i (i, section) (numbered_long sections i h)
    ∙ ap (λ s. s ∷ drop (i + 1) (numbered sections)) (numbered_at sections i section h is)

pub take-numbered : (sections : List Section) (i : ℕ) (section : Section) → i < length sections → section ≡ get_or sections i section
    → take (i + 1) (numbered sections) ≡ take i (numbered sections) ++ (i, section) ∷ []
take-numbered sections i section h is = take_more (numbered sections) i (i, section) (numbered_long sections i h)
    ∙ ap (λ s. take i (numbered sections) ++ s ∷ []) (numbered_at sections i section h is)

-- a section at which nothing is found is passed over
pub first_some-next : {B : Type 0} (f : Numbered → Option B) (s : Numbered) (more : List Numbered) → f s ≡ None → first_some f (s ∷ more) ≡ first_some f more
first_some-next f s more none = ap (λ found. found or_else first_some f more) none

pub first_some-found : {B : Type 0} (f : Numbered → Option B) (s : Numbered) (more : List Numbered) (b : B) → f s ≡ Some b → first_some f (s ∷ more) ≡ Some b
first_some-found f s more b some = ap (λ found. found or_else first_some f more) some

pub drop-numbered-all : (sections : List Section) (i : ℕ) → length sections ≤ i → drop i (numbered sections) ≡ []
drop-numbered-all sections i h = let same = length-enumerate_from 0 sections in drop_all i (numbered sections) (omega (arith, same))

-- a test of an optional number
pub none_of_some : (o : Option ℕ) → is_some o ≡ true → is_none o ≡ false
none_of_some (Some x) e = refl
none_of_some None e = absurd cc

pub none_of_not_some : (o : Option ℕ) → is_some o ≡ false → is_none o ≡ true
none_of_not_some (Some x) e = absurd cc
none_of_not_some None e = refl
