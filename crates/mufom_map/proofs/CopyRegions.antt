-- The regions of sections and commons are those without copies, and each copy is in the region that holds it.
use Rattle.std.proofs.Common.{◌≡◌, ℕ, ◌+◌, ◌<◌, ◌≤◌, ◌⊎◌, inl, inr, List, [], ◌∷◌, ◌++◌, length, map, Option, Some, None, Bool, true, false, refl, sym}
use Rattle.std.proofs.Common.{ap, ◌∙◌, arith, rules, length-append}
use Rattle.std.specs.Prelude.{◌==◌, filter, if◌then◌else◌, option_and_then}
use Rattle.std.specs.List.{enumerate_from}
use Rattle.std.proofs.lemmas.List.{map-append}
use Rattle.mufom_sections.specs.declared.section.Section.{Section}
use Rattle.mufom_module.specs.declared.module.Parts.{Parts}
use Rattle.mufom_plan.specs.declared.plan.Plan.{Plan}
use Rattle.mufom_plan.specs.declared.plan.Region.{Region}
use Rattle.mufom_plan.specs.Names.{region_position}
use Rattle.mufom_place.specs.declared.placing.Placing.{Placing}
use Rattle.mufom_place.specs.declared.placing.RegionCopy.{RegionCopy}
use Rattle.mufom_place.specs.Bases.{Numbered, last_of, numbered, placing_of, placings, site_by, site_of, site_with}
use Rattle.mufom_place.specs.Copies.{copies_from, copy_if, copy_placing, copy_sections, copy_with, ends_in, has_any, with_copies}
use Rattle.mufom_place.proofs.CopyLaws.{placing-before}
use Rattle.mufom_meaning.specs.Flat.{flat_sections}
use Rattle.mufom_meaning.specs.Placed.{placed_commons}
use Rattle.mufom_meaning.proofs.Members.{In, In-append}
use Rattle.mufom_planned.specs.Layout.{Layout, has_bytes, layout, layout_placings, whole_list}

-- ---- numbered lists

enumerate-append : {X : Type 0} (k : ℕ) (xs ys : List X) → enumerate_from k (xs ++ ys) ≡ enumerate_from k xs ++ enumerate_from (k + length xs) ys
enumerate-append k [] ys = let none : k ≡ k + 0 = omega arith in ap (λ n. enumerate_from n ys) none
enumerate-append k (x ∷ xs) ys =
    let next : (k + 1) + length xs ≡ k + length (x ∷ xs) = omega arith in
    ap (λ more. (k, x) ∷ more) (enumerate-append (k + 1) xs ys ∙ ap (λ n. enumerate_from (k + 1) xs ++ enumerate_from n ys) next)

same-below : {X : Type 0} (f g : Numbered → X) (bound k : ℕ) (sections : List Section) → ((n : ℕ) (s : Section) → n < bound → f (n, s) ≡ g (n, s))
    → k + length sections ≤ bound → map f (enumerate_from k sections) ≡ map g (enumerate_from k sections)
same-below f g bound k [] same low = refl
same-below f g bound k (s ∷ sections) same low =
    let here : k < bound = omega (arith, low) in
    let rest = same-below f g bound (k + 1) sections same (omega (arith, low)) in
    λ i. same k s here i ∷ rest i

-- ---- copies

-- a copy has no base of its own
copies-bare : (regions : List Region) (sections : List Section) (given : List Placing) (n : ℕ) (rest : List Region) (c : RegionCopy)
    → In c (copies_from regions sections given n rest) → c.section.base ≡ None
copies-bare regions sections given n [] c h = absurd h
copies-bare regions sections given n (region ∷ rest) c h =
    by_place (In-append c own (copies_from regions sections given (n + 1) rest) h) (copies-bare regions sections given (n + 1) rest c) where
      own : List RegionCopy
      own = copy_with n region (option_and_then (region_position regions) region.load) (ends_in sections n given)

      by_holder : (holder : Option ℕ) (has : Bool) (size : ℕ) → In c (copy_if n region holder has size) → c.section.base ≡ None
      by_holder None has size k = absurd k
      by_holder (Some holder) false size k = absurd k
      by_holder (Some holder) true size (inl e) = ap (λ (d : RegionCopy). d.section.base) (sym e)
      by_holder (Some holder) true size (inr none) = absurd none

      by_place : In c own ⊎ In c (copies_from regions sections given (n + 1) rest)
          → (In c (copies_from regions sections given (n + 1) rest) → c.section.base ≡ None) → c.section.base ≡ None
      by_place (inl k) later = by_holder (option_and_then (region_position regions) region.load) (has_any (ends_in sections n given)) _ k
      by_place (inr k) later = later k

placing_of-last : (ps : List Placing) (p : Placing) → placing_of (ps ++ p ∷ []) p.section ≡ Some p
placing_of-last [] p =
    let own : (p.section == p.section) ≡ true = search rules in
    ap (λ b. last_of (if b then Some p else None) None) own
placing_of-last (q ∷ ps) p = ap (last_of (if q.section == p.section then Some q else None)) (placing_of-last ps p)

-- each copy is in the region that holds it
holders-from : (regions : List Region) (whole : List Section) (given : List Placing) (n : ℕ) (copied : List RegionCopy)
    → ((c : RegionCopy) → In c copied → c.section.base ≡ None)
    → map (λ s. (site_by (with_copies regions whole given n copied) s).region) (enumerate_from n (copy_sections copied))
    ≡ map (λ (c : RegionCopy). Some c.holder) copied
holders-from regions whole given n [] bare = refl
holders-from regions whole given n (c ∷ more) bare =
    let p = copy_placing regions whole given n c in
    let there : placing_of (with_copies regions whole (given ++ p ∷ []) (n + 1) more) n ≡ Some p
    = placing-before regions whole (given ++ p ∷ []) (n + 1) more n (omega arith) ∙ placing_of-last given p in
    let own = bare c (inl refl) in
    let later = holders-from regions whole (given ++ p ∷ []) (n + 1) more (λ d h. bare d (inr h)) in
    λ i. (site_with (own i) (there i)).region ∷ later i

layout-bare : (ms : List Parts) (plan : Plan) (c : RegionCopy) → In c (layout ms plan).copied → c.section.base ≡ None
layout-bare ms plan c h =
    let own = flat_sections ms in let asked = placed_commons ms plan in
    copies-bare plan.regions (own ++ asked) (filter (λ (p : Placing). has_bytes ms p.section) (placings plan own asked)) 0 plan.regions c h

-- ---- the whole

module _ (l : Layout) (bare : (c : RegionCopy) → In c l.copied → c.section.base ≡ None) where
  all-regions : map (λ s. (site_by (layout_placings l) s).region) (numbered (whole_list l))
      ≡ map (λ s. (site_of l.plan l.sections l.commons s).region) (numbered (l.sections ++ l.commons)) ++ map (λ (c : RegionCopy). Some c.holder) l.copied
  all-regions =
      let region : Numbered → Option ℕ = λ s. (site_by (layout_placings l) s).region in
      let both = l.sections ++ l.commons in
      let count = length-append l.sections l.commons in
      let from : 0 + length both ≡ length l.sections + length l.commons = omega (arith, count) in
      let given = placings l.plan l.sections l.commons in
      ap (map region) (enumerate-append 0 both (copy_sections l.copied))
      ∙ map-append region (numbered both) (enumerate_from (0 + length both) (copy_sections l.copied))
      ∙ ap (λ first. first ++ map region (enumerate_from (0 + length both) (copy_sections l.copied)))
      (same-below region (λ s. (site_of l.plan l.sections l.commons s).region) (length l.sections + length l.commons) 0 both
      (λ n s low. ap (λ o. (site_with s.base o).region) (placing-before l.plan.regions (whole_list l) given (length l.sections + length l.commons) l.copied n low))
      (omega (arith, count)))
      ∙ ap (λ rest. map (λ s. (site_of l.plan l.sections l.commons s).region) (numbered both) ++ rest)
      (ap (λ n. map region (enumerate_from n (copy_sections l.copied))) from
      ∙ holders-from l.plan.regions (whole_list l) given (length l.sections + length l.commons) l.copied bare)

pub regions-are : (ms : List Parts) (plan : Plan) → (let l = layout ms plan in map (λ s. (site_by (layout_placings l) s).region) (numbered (whole_list l))
    ≡ map (λ s. (site_of plan l.sections l.commons s).region) (numbered (l.sections ++ l.commons)) ++ map (λ (c : RegionCopy). Some c.holder) l.copied)
regions-are ms plan = all-regions (layout ms plan) (layout-bare ms plan)
