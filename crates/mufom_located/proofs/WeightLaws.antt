-- What the loads of runs weigh, and the bound on the weight of a location.
use Rattle.std.proofs.Common.{◌≡◌, ℕ, suc, ◌+◌, ◌≤◌, ◌<◌, ◌^◌, ◌⊎◌, inl, inr, List, [], ◌∷◌, take, drop, length, map, get_or, filter, flat_map}
use Rattle.std.proofs.Common.{sum_by, refl, sym, ap, ◌∙◌, arith, Bool, true, false, cond, min}
use Rattle.std.specs.List.{enumerate_from}
use Rattle.std.proofs.lemmas.List.{drop_more, append-nil, length-map}
use Rattle.std.proofs.lemmas.List.FromFn.{length-enumerate_from}
use Rattle.std.proofs.lemmas.List.Sums.{sum_by-append, sum_by-cons}
use Rattle.mufom_sections.specs.declared.section.Section.{Section}
use Rattle.mufom_names.specs.declared.name.Reference.{Reference}
use Rattle.mufom_loads.specs.declared.load.Item.TheVariants.{Literal}
use Rattle.mufom_loads.specs.declared.load.Load.{Load}
use Rattle.mufom_loads.specs.declared.load.Load.TheVariants.{SetSection, SetPc, One, Repeat}
use Rattle.mufom_module.specs.Written.{weight}
use Rattle.mufom_module.specs.Weights.{reference_weight, load_weight}
use Rattle.mufom_module.proofs.WeightLaws.{weight-sum}
use Rattle.mufom_module.proofs.EntryCounts.{sections-count}
use Rattle.mufom_module.proofs.Valid.{weighs_less}
use Rattle.mufom_meaning.specs.declared.located.LocatedParts.{LocatedParts}
use Rattle.mufom_meaning.specs.Absolute.{absolute_of, chunks, with_section}
use Rattle.mufom_meaning.specs.Counts.{loaded_total}
use Rattle.mufom_meaning.specs.Flat.{is_common}
use Rattle.mufom_numbers.specs.declared.limits.TheConstants.{MOST_IMAGE_BYTES, MOST_STRING_BYTES}
use Rattle.mufom_meaning.specs.Facts.{image_limit}
use Rattle.mufom_meaning.specs.LocationLaws.{AbsoluteWeighs, asking_count}
use Rattle.mufom_meaning.specs.FactLaws.{AllAnswersAreFacts}
use Rattle.mufom_meaning.specs.CallLaws.{ModulesMayBePlaced}
use Rattle.mufom_meaning.specs.Placed.{extended_sections, base_list}
use Rattle.mufom_meaning.specs.Location.{placed_section}
use Rattle.mufom_located.specs.Located.{IsLocated}
use Rattle.mufom_located.specs.Weighed.{literals_weight}
use Rattle.mufom_located.proofs.LoadLaws.{chunks-first}

-- ---- literals

first_literal : (xs : List ℕ) (n : ℕ) → 0 < length xs → n ≡ min (suc 65534) (length xs) → literals_weight xs
    ≡ (10 + length (take n xs)) + literals_weight (drop n xs)
first_literal xs n some is =
    let first = ap (λ (all : List (List ℕ)). sum_by load_weight (map (λ chunk. One (Literal chunk)) all)) (chunks-first 65534 n xs some is) in
    let split = sum_by-cons load_weight (One (Literal (take n xs))) (map (λ chunk. One (Literal chunk)) (chunks MOST_STRING_BYTES (drop n xs))) in
    omega (arith, first, split)

-- the first literal and the rest
pub literals-next : (xs own rest : List ℕ) (n : ℕ) → 0 < length xs → n ≡ min (suc 65534) (length xs) → own ≡ take n xs → rest ≡ drop n xs
    → literals_weight xs ≡ (10 + length own) + literals_weight rest
literals-next xs own rest n some is front back = rw (front, back) (first_literal xs n some is)

-- ---- loads with the section before them

some_weight : (loads : List Load) → (loads ≡ []) ⊎ (0 < sum_by load_weight loads)
some_weight [] = inl refl
some_weight (load ∷ loads) = let split = sum_by-cons load_weight load loads in let own = at_least load in inr (omega (arith, split, own)) where
  at_least : (load : Load) → 0 < load_weight load
  at_least (SetSection section) = omega arith
  at_least (SetPc section value) = omega arith
  at_least (One item) = omega arith
  at_least (Repeat count items) = omega arith

pub with_section-none : (section : ℕ) (loads : List Load) → sum_by load_weight loads ≡ 0 → sum_by load_weight (with_section section loads) ≡ 0
with_section-none section [] none = refl
with_section-none section (load ∷ loads) none = by_weight (some_weight (load ∷ loads)) where
  by_weight : (load ∷ loads ≡ []) ⊎ (0 < sum_by load_weight (load ∷ loads)) → sum_by load_weight (with_section section (load ∷ loads)) ≡ 0
  by_weight (inl e) = absurd cc
  by_weight (inr some) = absurd (omega (arith, none, some))

pub with_section-some : (section : ℕ) (loads : List Load) → 0 < sum_by load_weight loads → sum_by load_weight (with_section section loads)
    ≡ sum_by load_weight loads + 10
with_section-some section [] some = absurd (omega (arith, some))
with_section-some section (load ∷ loads) some = let split = sum_by-cons load_weight (SetSection section) (load ∷ loads) in omega (arith, split)

-- the section with the next number
pub sections-next : (f : ℕ × Section → List Load) (sections : List Section) (i : ℕ) (section : Section) → i < length sections → section
    ≡ get_or sections i section
    → sum_by load_weight (flat_map f (enumerate_from i (drop i sections)))
    ≡ sum_by load_weight (f (i, section)) + sum_by load_weight (flat_map f (enumerate_from (i + 1) (drop (i + 1) sections)))
sections-next f sections i section inside is =
    ap (λ rest. sum_by load_weight (flat_map f (enumerate_from i rest))) (drop_more sections i section inside ∙ ap (λ s. s ∷ drop (i + 1) sections) (sym is))
    ∙ sum_by-append load_weight (f (i, section)) (flat_map f (enumerate_from (i + 1) (drop (i + 1) sections)))

-- ---- the bound

references_light : (references : List Reference) → length (filter is_common references) ≤ sum_by reference_weight references
references_light [] = omega arith
references_light (reference ∷ references) = by_case (is_common reference) (references_light references)
    (sum_by-cons reference_weight reference references) where
      by_case : (b : Bool) → length (filter is_common references) ≤ sum_by reference_weight references
          → sum_by reference_weight (reference ∷ references) ≡ reference_weight reference + sum_by reference_weight references
          → length (cond b (reference ∷ filter is_common references) (filter is_common references)) ≤ sum_by reference_weight (reference ∷ references)
      by_case true rest split = omega (arith, split, rest)
      by_case false rest split = omega (arith, split, rest)

pub located-light : AbsoluteWeighs → AllAnswersAreFacts → (r : LocatedParts) → IsLocated r → weight (absolute_of r) < 2 ^ 64
located-light weighs facts r h =
    let m = h.source in
    let ms = m ∷ [] in
    let whole = weighs ms h.plan r (h.valid, tt) h.is in
    let own = weighs_less m h.valid in
    let parts = weight-sum m in
    let sections = sections-count m in
    let all_sections = ap length (append-nil m.sections) in
    let references = references_light m.names.references in
    let all_references : asking_count ms ≡ length (filter is_common m.names.references) =
    ap (λ all. length (filter is_common all)) (append-nil m.names.references) in
    let few : ¬ (MOST_IMAGE_BYTES < loaded_total ms) = λ past. (facts ms h.plan).locate_complete h.is.locates (image_limit (loaded_total ms))
    (inl (refl, past)) in
    omega (arith, whole, own, parts, sections, all_sections, references, all_references, few)

pub sections-few : ModulesMayBePlaced → (r : LocatedParts) → IsLocated r → length r.sections < 2 ^ 32
sections-few may r h =
    let placed = (may h.source h.plan h.valid).count in
    let same = ap length h.is.sections ∙ length-map (enumerate_from 0 (extended_sections (h.source ∷ []) h.plan))
    (placed_section (base_list (h.source ∷ []) h.plan))
    ∙ length-enumerate_from 0 (extended_sections (h.source ∷ []) h.plan) in
    omega (arith, placed, same)
