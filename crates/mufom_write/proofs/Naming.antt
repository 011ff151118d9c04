-- The indexes of a written form are declared once, and those that it names are declared.
use Rattle.std.proofs.Common.{◌≡◌, ℕ, zero, suc, ◌+◌, ◌<◌, ◌≤◌, ◌==◌, Bool, true, false, ◌||◌, ◌&&◌, not, cond, List, [], ◌∷◌, ◌++◌, Option, Some}
use Rattle.std.proofs.Common.{None, refl, sym, subst, ap, ◌∙◌, inl, inr, arith, append_assoc}
use Rattle.std.specs.Prelude.{filter_map}
use Rattle.std.specs.List.{list_any, list_all}
use Rattle.std.proofs.lemmas.List.{append-nil}
use Rattle.std.proofs.lemmas.List.Elements.{filter_map-append}
use Rattle.std.proofs.lemmas.List.Folds.{list_any-append}
use Rattle.std.proofs.lemmas.Bool.{eq-eqb, ne_eqb, cases_lt}
use Rattle.mufom_sections.specs.declared.section.Section.{Section}
use Rattle.mufom_module.specs.SpelledRecords.{SpelledRecord, Kind, section, FileIndex, declared, declared_by, of_kind, is_declared, named_at_once}
use Rattle.mufom_module.specs.SpelledRecords.{Once, alignment, section_size, section_base, is_same_statement, assigned_by, is_assigned}
use Rattle.mufom_module.specs.Grammar.{Follows, FollowFrom, declares_again, states_again, has_no_section}
use Rattle.mufom_write.proofs.Indexed.{counting}
use Rattle.mufom_write.proofs.Laying.{records_from}
use Rattle.mufom_write.proofs.SectionRecords.{declaration, alignment_spelling, size_spelling, base_spelling, alignment_spellings, size_spellings}
use Rattle.mufom_write.proofs.SectionRecords.{base_spellings, settings, section_records}
use Rattle.mufom_write.proofs.StatedSections.{settings-nothing}

-- ---- what follows in steps

pub follow-append : (before xs ys : List SpelledRecord) → FollowFrom before xs → FollowFrom (before ++ xs) ys → FollowFrom before (xs ++ ys)
follow-append before [] ys a b = subst (λ (l : List SpelledRecord). FollowFrom l ys) (append-nil before) b
follow-append before (x ∷ xs) ys a b = (
  a.0,
  follow-append (before
      ++ x ∷ []) xs ys a.1 (subst (λ (l : List SpelledRecord). FollowFrom l ys) (sym (append_assoc before (x ∷ []) xs)) b),
)

-- ---- indexes that were counted

not_equal : (a b : ℕ) → a < b → (a == b) ≡ false
not_equal a b h = ne_eqb a b (λ same. omega (arith, h, same))

pub missing : (i first n : ℕ) → first + n ≤ i → list_any (λ j. j == i) (counting first n) ≡ false
missing i first zero past = refl
missing i first (suc n) past =
    let here = not_equal first i (omega (arith, past)) in
    let later = missing i (first + 1) n (omega (arith, past)) in
    λ k. here k || later k

pub found : (i first n : ℕ) → first ≤ i → i < first + n → list_any (λ j. j == i) (counting first n) ≡ true
found i first zero above below = absurd (omega (arith, above, below))
found i first (suc n) above below = elim (cases_lt first i) [
  | inl less ↦ ap (λ (b : Bool). b || list_any (λ j. j == i) (counting (first + 1) n)) (not_equal first i less)
      ∙ found i (first + 1) n (omega (arith, less)) (omega (arith, below))
  | inr least ↦ let same : first ≡ i = omega (arith, above, least) in
      ap (λ (b : Bool). b || list_any (λ j. j == i) (counting (first + 1) n)) (eq-eqb first i same)
]

-- ---- what was stated

pub unstated-append : (before xs : List SpelledRecord) (once : Once) → is_assigned before once ≡ false → is_assigned xs once ≡ false
    → is_assigned (before ++ xs) once ≡ false
unstated-append before xs once a b =
    ap (list_any (is_same_statement once)) (filter_map-append (λ p. assigned_by p.row) before xs)
    ∙ list_any-append (is_same_statement once) (filter_map (λ p. assigned_by p.row) before) (filter_map (λ p. assigned_by p.row) xs) ∙ (λ k. a k || b k)

pub declared-append : (kind : Kind) (before xs : List SpelledRecord) → declared kind (before ++ xs) ≡ declared kind before ++ declared kind xs
declared-append kind before xs = filter_map-append (λ p. of_kind kind (declared_by p.row)) before xs

-- ---- sections

unless-unstated : (b : Bool) (p : SpelledRecord) (once : Once) → is_assigned (p ∷ []) once ≡ false → is_assigned (cond b [] (p ∷ [])) once ≡ false
unless-unstated true p once h = refl
unless-unstated false p once h = h

pub not_same : (i j : ℕ) → (i ≡ j → ⊥) → ((i == j) || false) ≡ false
not_same i j differ = ap (λ (b : Bool). b || false) (ne_eqb i j differ)

-- a follow of a record that is there or not
unless-follow : (b : Bool) (before : List SpelledRecord) (p : SpelledRecord) → Follows before p → FollowFrom before (cond b [] (p ∷ []))
unless-follow true before p h = tt
unless-follow false before p h = (h, tt)

-- what a record keeps to that names one index, which is declared before it
pub index-follows : (before : List SpelledRecord) (index : FileIndex) (p : SpelledRecord) → named_at_once p ≡ index ∷ [] → declares_again before p.row
    ≡ false → has_no_section before p.row ≡ false
    → is_declared before index ≡ true → states_again before p.row ≡ false → Follows before p
index-follows before index p names new placed known once = record {
  new = new;
  known = ap (λ (l : List FileIndex). not (list_all (is_declared before) l)) names ∙ ap (λ (b : Bool). not (b && true)) known;
  once = once;
  placed = placed;
}

pub declared-more : (before xs : List SpelledRecord) (index : FileIndex) → is_declared before index ≡ true → is_declared (before ++ xs) index ≡ true
declared-more before xs index h =
    ap (list_any (λ j. j == index.1)) (declared-append index.0 before xs)
    ∙ list_any-append (λ j. j == index.1) (declared index.0 before) (declared index.0 xs)
    ∙ ap (λ (b : Bool). b || list_any (λ j. j == index.1) (declared index.0 xs)) h

pub or_true : (b : Bool) → (b || true) ≡ true
or_true true = refl
or_true false = refl

-- what precedes the records of the section with index n + 1
pub record BeforeSection (before : List SpelledRecord) (n : ℕ) : Type 0 where
  pub indexes : declared section before ≡ counting 1 n
  pub alignments : (i : ℕ) → n < i → is_assigned before (alignment i) ≡ false
  pub sizes : (i : ℕ) → n < i → is_assigned before (section_size i) ≡ false
  pub bases : (i : ℕ) → n < i → is_assigned before (section_base i) ≡ false

declaration-follows : (before : List SpelledRecord) (n : ℕ) (s : Section) → BeforeSection before n → Follows before (declaration (n + 1) s)
declaration-follows before n s state = record {
  new = ap (list_any (λ j. j == n + 1)) state.indexes ∙ missing (n + 1) 1 n (omega arith);
  known = refl;
  once = refl;
  placed = refl;
}

declared-here : (before : List SpelledRecord) (n : ℕ) (s : Section) → is_declared (before ++ declaration (n + 1) s ∷ []) (section, n + 1) ≡ true
declared-here before n s =
    let i = n + 1 in
    ap (list_any (λ j. j == i)) (declared-append section before (declaration i s ∷ []))
    ∙ list_any-append (λ j. j == i) (declared section before) (i ∷ [])
    ∙ ap (λ (b : Bool). list_any (λ j. j == i) (declared section before) || (b || false)) (eq-eqb i i refl)
    ∙ or_true (list_any (λ j. j == i) (declared section before))

base-follows : (before : List SpelledRecord) (i : ℕ) (base : Option ℕ) → is_declared before (section, i) ≡ true → is_assigned before (section_base i)
    ≡ false → FollowFrom before (base_spellings i base)
base-follows before i None known unstated = tt
base-follows before i (Some base) known unstated = (index-follows before (section, i) (base_spelling i base) refl refl refl known unstated, tt)

settings-follow : (before : List SpelledRecord) (i : ℕ) (s : Section) → is_declared before (section, i) ≡ true → is_assigned before (alignment i)
    ≡ false → is_assigned before (section_size i) ≡ false
    → is_assigned before (section_base i) ≡ false → FollowFrom before (settings i s)
settings-follow before i s known aligned sized based =
    let a = alignment_spellings i s.align in
    let b = size_spellings i s.size in
    let second = unstated-append before a (section_size i) sized (unless-unstated (s.align == 1) (alignment_spelling i s.align) (section_size i) refl) in
    let third = unstated-append before a (section_base i) based (unless-unstated (s.align == 1) (alignment_spelling i s.align) (section_base i) refl) in
    let last = unstated-append (before ++ a) b (section_base i) third (unless-unstated (s.size == 0) (size_spelling i s.size) (section_base i) refl) in
    let after = declared-more before a (section, i) known in
    follow-append before a (b ++ base_spellings i s.base)
    (unless-follow (s.align == 1) before (alignment_spelling i s.align)
    (index-follows before (section, i) (alignment_spelling i s.align) refl refl refl known aligned))
    (follow-append (before ++ a) b (base_spellings i s.base)
    (unless-follow (s.size == 0) (before ++ a) (size_spelling i s.size)
    (index-follows (before ++ a) (section, i) (size_spelling i s.size) refl refl refl after second))
    (base-follows ((before ++ a) ++ b) i s.base (declared-more (before ++ a) b (section, i) after) last))

section-follows : (before : List SpelledRecord) (n : ℕ) (s : Section) → BeforeSection before n → FollowFrom before (section_records n s)
section-follows before n s state =
    let i = n + 1 in
    let d = declaration i s ∷ [] in (
      declaration-follows before n s state,
      settings-follow (before ++ d) i s (declared-here before n s) (unstated-append before d (alignment i) (state.alignments i (omega arith)) refl)
          (unstated-append before d (section_size i) (state.sizes i (omega arith)) refl)
          (unstated-append before d (section_base i) (state.bases i (omega arith)) refl),
    )

base-unstated : (i : ℕ) (base : Option ℕ) (once : Once) → ((b : ℕ) → is_assigned (base_spelling i b ∷ []) once ≡ false)
    → is_assigned (base_spellings i base) once ≡ false
base-unstated i None once h = refl
base-unstated i (Some base) once h = h base

pub section-unstated : (n : ℕ) (s : Section) (once : Once) → is_assigned (alignment_spelling (n + 1) s.align ∷ []) once ≡ false
    → is_assigned (size_spelling (n + 1) s.size ∷ []) once ≡ false
    → ((b : ℕ) → is_assigned (base_spelling (n + 1) b ∷ []) once ≡ false) → is_assigned (section_records n s) once ≡ false
section-unstated n s once a b c =
    let i = n + 1 in
    unstated-append (alignment_spellings i s.align) (size_spellings i s.size
    ++ base_spellings i s.base) once (unless-unstated (s.align == 1) (alignment_spelling i s.align) once a)
    (unstated-append (size_spellings i s.size) (base_spellings i s.base) once (unless-unstated (s.size == 0) (size_spelling i s.size) once b)
    (base-unstated i s.base once c))

pub counting-more : (first n : ℕ) → counting first n ++ (first + n) ∷ [] ≡ counting first (suc n)
counting-more first zero = let same : first + 0 ≡ first = omega arith in ap (λ (x : ℕ). x ∷ []) same
counting-more first (suc n) =
    let same : first + suc n ≡ first + 1 + n = omega arith in
    ap (λ (x : ℕ). first ∷ (counting (first + 1) n ++ x ∷ [])) same ∙ ap (λ (l : List ℕ). first ∷ l) (counting-more (first + 1) n)

next-section : (before : List SpelledRecord) (n : ℕ) (s : Section) → BeforeSection before n → BeforeSection (before ++ section_records n s) (n + 1)
next-section before n s state = record {
  indexes = declared-append section before (section_records n s)
      ∙ (λ k. state.indexes k ++ ((n + 1) ∷ settings-nothing (λ p. of_kind section (declared_by p.row)) (n + 1) s refl refl (λ b. refl) k))
      ∙ ap (λ (x : ℕ). counting 1 n ++ x ∷ []) (sum n) ∙ counting-more 1 n ∙ ap (counting 1) (next n);
  alignments = λ i high. unstated-append before (section_records n s) (alignment i) (state.alignments i (omega (arith, high)))
      (section-unstated n s (alignment i) (not_same i (n + 1) (λ same. omega (arith, same, high))) refl (λ b. refl));
  sizes = λ i high. unstated-append before (section_records n s) (section_size i) (state.sizes i (omega (arith, high)))
      (section-unstated n s (section_size i) refl (not_same i (n + 1) (λ same. omega (arith, same, high))) (λ b. refl));
  bases = λ i high. unstated-append before (section_records n s) (section_base i) (state.bases i (omega (arith, high)))
      (section-unstated n s (section_base i) refl refl (λ b. not_same i (n + 1) (λ same. omega (arith, same, high))));
} where
  sum : (n : ℕ) → n + 1 ≡ 1 + n
  sum n = omega arith

  next : (n : ℕ) → suc n ≡ n + 1
  next n = omega arith

sections-follow : (before : List SpelledRecord) (n : ℕ) (sections : List Section) → BeforeSection before n
    → FollowFrom before (records_from n section_records sections)
sections-follow before n [] state = tt
sections-follow before n (s ∷ sections) state =
    follow-append before (section_records n s) (records_from (n + 1) section_records sections) (section-follows before n s state)
    (sections-follow (before ++ section_records n s) (n + 1) sections (next-section before n s state))

-- each record of the section part keeps to what is before it
pub section_part-follows : (sections : List Section) → FollowFrom [] (records_from 0 section_records sections)
section_part-follows sections = sections-follow [] 0 sections (record { indexes = refl; alignments = λ i h. refl; sizes = λ i h. refl; bases = λ i h. refl })
