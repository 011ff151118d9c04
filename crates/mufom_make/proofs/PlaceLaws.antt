-- Where the plan for the generated modules puts their sections: each takes the 16 units after those of the section before it.
use Rattle.std.proofs.Common.{◌≡◌, ℕ, zero, suc, ◌+◌, ◌*◌, ◌<◌, ◌≤◌, List, [], ◌∷◌, map, replicate, Some, None, Bool, true, false, refl, sym, ◌∙◌, ap}
use Rattle.std.proofs.Common.{arith, append-nil, length}
use Rattle.std.proofs.lemmas.List.{length-replicate}
use Rattle.std.specs.Prelude.{◌==◌, slice_get, filter, if◌then◌else◌, codes}
use Rattle.std.specs.List.{enumerate_from}
use Rattle.mufom_sections.specs.declared.section.Section.{Section}
use Rattle.mufom_place.specs.declared.placing.Placing.{Placing}
use Rattle.mufom_place.specs.declared.placing.AssignedBase.{AssignedBase}
use Rattle.mufom_place.specs.Bases.{Numbered, aligned_up, goes_to, waiting, packed, last_of, placing_of, placings, site_with, site_of, bases}
use Rattle.mufom_meaning.specs.Flat.{flat_sections}
use Rattle.mufom_meaning.specs.Placed.{planned_bases}
use Rattle.mufom_numbers.proofs.Choices.{equal_numbers, some_same}
use Rattle.mufom_meaning.proofs.Placed.{planned_get}
use Rattle.mufom_make.specs.Generated.{code_section, made_modules, made_plan, modules_from}

-- ---- the sections

pub sections_of : (count more n : ℕ) → flat_sections (modules_from count more n) ≡ replicate more code_section
sections_of count zero n = refl
sections_of count (suc more) n = ap (λ (rest : List Section). code_section ∷ rest) (sections_of count more (n + 1))

-- each section is the one of a module
pub record IsCodeAt (more n : ℕ) (section : Section) : Type 0 where
  pub within : n < more
  pub same : section ≡ code_section

pub code_at : (more n : ℕ) (section : Section) → slice_get (replicate more code_section) n ≡ Some section → IsCodeAt more n section
code_at zero n section e = absurd cc
code_at (suc more) zero section e = record { within = omega arith; same = sym (some_same code_section section e) }
code_at (suc more) (suc n) section e =
    let later = code_at more n section e in
    let within = later.within in record { within = omega (arith, within); same = later.same }

pub code_there : (more n : ℕ) → n < more → slice_get (replicate more code_section) n ≡ Some code_section
code_there zero n less = absurd (omega (arith, less))
code_there (suc more) zero less = refl
code_there (suc more) (suc n) less = code_there more n (omega (arith, less))

-- ---- what the region gives

-- where the region puts the section of the module with this number
abbrev pub base_at : ℕ → ℕ
base_at n = 4096 + 16 * n

abbrev placing_with : (base n : ℕ) → Placing
placing_with base n = record { section = n; region = 0; base = base }

abbrev placing_at : ℕ → Placing
placing_at n = placing_with (base_at n) n

abbrev placings_from : (more n : ℕ) → List Placing
placings_from zero n = []
placings_from (suc more) n = placing_at n ∷ placings_from more (n + 1)

-- the sections with the numbers from n on, as the region takes them
abbrev taken_from : (more n : ℕ) → List Numbered
taken_from more n = filter (goes_to (codes "*" ∷ []) (codes "*")) (enumerate_from n (replicate more code_section))

packed-from : (more n : ℕ) → packed 0 (base_at n) (map waiting (taken_from more n)) ≡ placings_from more n
packed-from zero n = refl
packed-from (suc more) n =
    let here : aligned_up 4 (base_at n) ≡ base_at n = omega arith in
    let next : base_at n + 16 ≡ base_at (n + 1) = omega arith in
    ap (λ (a : ℕ). placing_with a n ∷ packed 0 (a + 16) (map waiting (taken_from more (n + 1)))) here
    ∙ ap (λ (a : ℕ). placing_at n ∷ packed 0 a (map waiting (taken_from more (n + 1)))) next
    ∙ ap (λ (rest : List Placing). placing_at n ∷ rest) (packed-from more (n + 1))

placings-all : (count more : ℕ) → placings (made_plan count) (replicate more code_section) [] ≡ placings_from more 0
placings-all count more =
    append-nil _
    ∙ ap (λ taken. packed 0 4096 taken) (append-nil _ ∙ append-nil _)
    ∙ packed-from more 0

placing-before : (more n k : ℕ) → k < n → placing_of (placings_from more n) k ≡ None
placing-before zero n k less = refl
placing-before (suc more) n k less =
    let other : (n == k) ≡ false = grind (arith, less) in
    let rest = placing-before more (n + 1) k (omega (arith, less)) in
    (λ i. last_of (if other i then Some (placing_at n) else None) (rest i))

placing-there : (more n k : ℕ) → n ≤ k → k < n + more → placing_of (placings_from more n) k ≡ Some (placing_at k)
placing-there zero n k low high = absurd (omega (arith, low, high))
placing-there (suc more) n k low high = by_case (n == k) refl (placing-there more (n + 1) k) where
  by_case : (b : Bool) → (n == k) ≡ b
      → (n + 1 ≤ k → k < n + 1 + more → placing_of (placings_from more (n + 1)) k ≡ Some (placing_at k))
      → last_of (if b then Some (placing_at n) else None) (placing_of (placings_from more (n + 1)) k) ≡ Some (placing_at k)
  by_case true e later =
      let same = equal_numbers n k e in
      ap (last_of (Some (placing_at n))) (placing-before more (n + 1) k (omega (arith, same)))
      ∙ ap (λ (m : ℕ). Some (placing_at m)) same
  by_case false e later =
      let differ : n + 1 ≤ k = grind (arith, e, low) in
      ap (last_of None) (later differ (omega (arith, high)))

-- where the section of a module is placed
abbrev pub place_at : ℕ → AssignedBase
place_at n = record { base = base_at n; region = Some 0 }

pub placed-at : (count more n : ℕ) → n < more → site_of (made_plan count) (replicate more code_section) [] (n, code_section) ≡ place_at n
placed-at count more n less =
    ap (λ given. site_with None (placing_of given n)) (placings-all count more)
    ∙ ap (site_with None) (placing-there more 0 n (omega arith) (omega (arith, less)))

-- ---- the bases

numbered-map : (f : Numbered → ℕ) (more k n : ℕ) → n < more
    → slice_get (map f (enumerate_from k (replicate more code_section))) n ≡ Some (f (k + n, code_section))
numbered-map f zero k n less = absurd (omega (arith, less))
numbered-map f (suc more) k zero less = let here : k ≡ k + 0 = omega arith in ap (λ (m : ℕ). Some (f (m, code_section))) here
numbered-map f (suc more) k (suc n) less =
    let next : k + 1 + n ≡ k + suc n = omega arith in
    numbered-map f more (k + 1) n (omega (arith, less)) ∙ ap (λ (m : ℕ). Some (f (m, code_section))) next

bases-there : (count more n : ℕ) → n < more → slice_get (bases (made_plan count) (replicate more code_section) []) n ≡ Some (base_at n)
bases-there count more n less =
    let first : 0 + n ≡ n = omega arith in
    ap (λ (all : List Section). slice_get (map (λ (t : Numbered). (site_of (made_plan count) (replicate more code_section) [] t).base)
    (enumerate_from 0 all)) n) (append-nil (replicate more code_section))
    ∙ numbered-map (λ (t : Numbered). (site_of (made_plan count) (replicate more code_section) [] t).base) more 0 n less
    ∙ ap (λ (m : ℕ). Some (site_of (made_plan count) (replicate more code_section) [] (m, code_section)).base) first
    ∙ ap (λ (site : AssignedBase). Some site.base) (placed-at count more n less)

-- the section of the module with this number is placed there
pub planned-there : (count n : ℕ) → n < count → slice_get (planned_bases (made_modules count) (made_plan count)).sections n ≡ Some (base_at n)
planned-there count n less =
    let all = sections_of count count 0 in
    let long = ap length all ∙ length-replicate count code_section in
    planned_get (made_modules count) (made_plan count) n (omega (arith, less, long))
    ∙ ap (λ (sections : List Section). slice_get (bases (made_plan count) sections []) n) all
    ∙ bases-there count count n less
