-- Entries that are none of the names of the sections that regions place are those that place no section.
use Rattle.std.proofs.Common.{◌≡◌, ℕ, ◌+◌, ◌<◌, List, [], ◌∷◌, ◌++◌, length, map, take, get_or, flat_map, Bool, true, false, not, ◌&&◌, ◌||◌, refl, sym, ap}
use Rattle.std.proofs.Common.{◌∙◌, subst, true≢false, if◌then◌else◌}
use Rattle.std.specs.Prelude.{filter}
use Rattle.std.specs.List.{enumerate_from, list_any}
use Rattle.std.specs.Str.{bytes_eq}
use Rattle.std.proofs.lemmas.List.{take_more}
use Rattle.std.proofs.lemmas.List.Folds.{list_any-append}
use Rattle.std.proofs.lemmas.Slice.Eq.{bytes_eq-Decides}
use Rattle.mufom_sections.specs.declared.section.Section.{Section}
use Rattle.mufom_plan.specs.declared.plan.Region.{Region}
use Rattle.mufom_plan.specs.Names.{has_name}
use Rattle.mufom_place.specs.Bases.{goes_to, has_no_base, numbered}
use Rattle.mufom_text.specs.Words.{Text, each, each_from}
use Rattle.mufom_map.specs.MapText.{unused_line, unused_lines}
use Rattle.mufom_map.specs.Unused.{is_missing, is_star, is_unused, missing_entries, unused_entries, waits_as}
use Rattle.mufom_map.specs.UnusedLine.{missing_line}

or-none : (b : Bool) → (b || false) ≡ b
or-none true = refl
or-none false = refl

-- ---- an entry and a section

module _ (listed : List (List ℕ)) (entry : List ℕ) (other : is_star entry ≡ false) where
  -- a section is placed at an entry other than `*` by its name alone
  goes-by-name : (n : ℕ) (s : Section) → goes_to listed entry (n, s) ≡ waits_as entry s
  goes-by-name n s =
      ap (λ (b : Bool). has_no_base s && b)
      (ap (λ (star : Bool). bytes_eq entry s.name || (star && not (has_name listed s.name))) other ∙ or-none (bytes_eq entry s.name))

  any-by-name : (n : ℕ) (sections : List Section) → list_any (goes_to listed entry) (enumerate_from n sections) ≡ list_any (waits_as entry) sections
  any-by-name n [] = refl
  any-by-name n (s ∷ sections) =
      let here = goes-by-name n s in let rest = any-by-name (n + 1) sections in λ i. here i || rest i

module _ (listed names : List (List ℕ)) (sections : List Section)
    (are : (entry : List ℕ) → has_name names entry ≡ list_any (waits_as entry) sections) where
  missing-is : (entry : List ℕ) → is_missing names entry ≡ is_unused listed sections entry
  missing-is entry = by_star (is_star entry) refl where
    by_star : (b : Bool) → is_star entry ≡ b → (not b && not (has_name names entry)) ≡ (not b && not (list_any (goes_to listed entry) (numbered sections)))
    by_star true is = refl
    by_star false is = ap not (are entry ∙ sym (any-by-name listed entry is 0 sections))

  -- the entries that are none of these names place no section
  pub missing-unused : (regions : List Region) → map (missing_entries names) regions ≡ map (unused_entries listed sections) regions
  missing-unused regions = λ i. map (λ (r : Region). filter (λ entry. missing-is entry i) r.sections) regions

-- ---- names that are added

-- a name more, which is not added if it is there already
pub name-more : (names : List (List ℕ)) (name : List ℕ) (added : Bool) → added ≡ not (has_name names name) → (entry : List ℕ)
    → has_name (if added then names ++ name ∷ [] else names) entry ≡ (has_name names entry || bytes_eq entry name)
name-more names name true is entry =
    list_any-append (bytes_eq entry) names (name ∷ []) ∙ ap (λ (b : Bool). has_name names entry || b) (or-none (bytes_eq entry name))
name-more names name false is entry = by_name (bytes_eq entry name) refl where
  there : has_name names name ≡ true
  there = by (has_name names name) is where
    by : (b : Bool) → false ≡ not b → b ≡ true
    by true e = refl
    by false e = absurd (true≢false (sym e))

  by_name : (b : Bool) → bytes_eq entry name ≡ b → has_name names entry ≡ (has_name names entry || b)
  by_name true same =
      let own : has_name names entry ≡ true
      = subst (λ (n : List ℕ). has_name names n ≡ true) (sym ((bytes_eq-Decides entry name).0 same)) there in
      own ∙ sym (ap (λ (b : Bool). b || true) own)
  by_name false other = sym (or-none (has_name names entry))

-- one section more
pub waits-more : (entry : List ℕ) (sections : List Section) (i : ℕ) (s d : Section) → i < length sections → s ≡ get_or sections i d
    → list_any (waits_as entry) (take (i + 1) sections) ≡ (list_any (waits_as entry) (take i sections) || waits_as entry s)
waits-more entry sections i s d less is =
    ap (list_any (waits_as entry)) (take_more sections i d less) ∙ list_any-append (waits_as entry) (take i sections) (get_or sections i d ∷ [])
    ∙ ap (λ (b : Bool). list_any (waits_as entry) (take i sections) || b)
    (or-none (waits_as entry (get_or sections i d)) ∙ ap (waits_as entry) (sym is))

-- ---- lines

-- the lines of the entries that pass are those of all entries, each if it passes
pub missing-text : (names : List (List ℕ)) (k : ℕ) (entries : List (List ℕ))
    → flat_map (missing_line names k) entries ≡ unused_lines k (filter (is_missing names) entries)
missing-text names k [] = refl
missing-text names k (entry ∷ entries) = by (is_missing names entry) (missing-text names k entries) where
  by : (b : Bool) → flat_map (missing_line names k) entries ≡ unused_lines k (filter (is_missing names) entries)
      → (if b then unused_line k entry else []) ++ flat_map (missing_line names k) entries
      ≡ unused_lines k (if b then entry ∷ filter (is_missing names) entries else filter (is_missing names) entries)
  by true rest = ap (λ (t : Text). unused_line k entry ++ t) rest
  by false rest = rest

each-from-map : {X Y : Type 0} (f : X → Y) (write : ℕ → Y → Text) (n : ℕ) (xs : List X)
    → each_from n write (map f xs) ≡ each_from n (λ k x. write k (f x)) xs
each-from-map f write n [] = refl
each-from-map f write n (x ∷ xs) = ap (λ (t : Text). write n (f x) ++ t) (each-from-map f write (n + 1) xs)

pub each-map : {X Y : Type 0} (f : X → Y) (write : ℕ → Y → Text) (xs : List X) → each write (map f xs) ≡ each (λ k x. write k (f x)) xs
each-map f write xs = each-from-map f write 0 xs
