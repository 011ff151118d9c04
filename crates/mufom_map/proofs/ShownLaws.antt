-- Located sections with their regions show what a map shows, and give the commons that were placed.
use Rattle.std.proofs.Common.{◌≡◌, ℕ, zero, suc, ◌+◌, List, [], ◌∷◌, ◌++◌, length, map, take, drop, Option, Some, None, Bool, true, false, refl, sym, ap}
use Rattle.std.proofs.Common.{◌∙◌, subst, sum_by, arith, append_assoc}
use Rattle.std.specs.Prelude.{slice_get, slice_index_or, unwrap_or, option_map, if◌then◌else◌, nat_le}
use Rattle.std.specs.Str.{bytes_eq}
use Rattle.std.specs.List.{enumerate_from}
use Rattle.std.proofs.Math.Seq.{drop-append_seam, take-append_seam}
use Rattle.std.proofs.lemmas.List.Sums.{sum_by-cons}
use Rattle.std.proofs.lemmas.Option.{slice_get-map, get_or_from_slice_get}
use Rattle.mufom_sections.specs.declared.section.Section.{Section}
use Rattle.mufom_module.specs.declared.module.Parts.{Parts}
use Rattle.mufom_plan.specs.declared.plan.Plan.{Plan}
use Rattle.mufom_plan.specs.Commons.{has_common}
use Rattle.mufom_place.specs.declared.placing.AssignedBase.{AssignedBase}
use Rattle.mufom_place.specs.Bases.{numbered, site_by}
use Rattle.mufom_meaning.specs.Flat.{common_names, commons, distinct, flat_sections}
use Rattle.mufom_meaning.specs.Location.{placed_section, placed_sections}
use Rattle.mufom_meaning.specs.Placed.{common_section, common_sections, placed_commons}
use Rattle.mufom_meaning.proofs.Tests.{get_enumerate}
use Rattle.mufom_planned.specs.Layout.{Layout, layout_bases, layout_placings, whole_list}
use Rattle.mufom_origins.specs.declared.origins.Origin.{Origin}
use Rattle.mufom_map.specs.Mapped.{MappedSection, mapped_section, first_copy}
use Rattle.mufom_origins.specs.Places.{module_in}
use Rattle.mufom_map.specs.MapText.{extent_of}
use Rattle.mufom_map.specs.Shown.{bare, section_extent, section_extents, shown_section, shown_sections}

module _ (origins : List Origin) (l : Layout) (regions : List (Option ℕ)) where
  abbrev all : List Section
  all = whole_list l

  abbrev site : ℕ × Section → AssignedBase
  site = site_by (layout_placings l)

  abbrev AreRegions : Type 0
  AreRegions = regions ≡ map (λ s. (site s).region) (numbered all)

  -- what is computed for each section of the list, at the position of one
  made_there : {X : Type 0} (f : ℕ × Section → X) (n : ℕ) (s : Section) → slice_get all n ≡ Some s → slice_get (map f (numbered all)) n ≡ Some (f (n, s))
  made_there f n s found =
      let same : 0 + n ≡ n = omega arith in
      slice_get-map f (numbered all) n ∙ ap (option_map f) (get_enumerate 0 all n s found ∙ (λ i. Some (same i, s)))

  region_there : AreRegions → (n : ℕ) (s : Section) → slice_get all n ≡ Some s → slice_index_or regions n None ≡ (site (n, s)).region
  region_there are n s found =
      get_or_from_slice_get regions n (site (n, s)).region None (ap (λ rs. slice_get rs n) are ∙ made_there (λ t. (site t).region) n s found)

  base_there : (n : ℕ) (s : Section) → slice_get all n ≡ Some s → slice_get (layout_bases l) n ≡ Some (site (n, s)).base
  base_there n s found = made_there (λ t. (site t).base) n s found

  shown-from : AreRegions → (n : ℕ) (rest : List Section) → ((i : ℕ) (s : Section) → slice_get rest i ≡ Some s → slice_get all (n + i) ≡ Some s)
      → map (shown_section origins regions (first_copy l)) (enumerate_from n (map (placed_section (layout_bases l)) (enumerate_from n rest)))
      ≡ map (mapped_section origins l) (enumerate_from n rest)
  shown-from are n [] there = refl
  shown-from are n (s ∷ rest) there =
      let same : n + 0 ≡ n = omega arith in
      let found : slice_get all n ≡ Some s = subst (λ (k : ℕ). slice_get all k ≡ Some s) same (there 0 s refl) in
      let based = ap (λ o. unwrap_or o 0) (base_there n s found) in
      let region = region_there are n s found in
      let later = shown-from are (n + 1) rest (λ i t e. (let next : n + suc i ≡ (n + 1) + i = omega arith in
      subst (λ (k : ℕ). slice_get all k ≡ Some t) next (there (suc i) t e))) in
      λ i. record {
        number = n;
        name = s.name;
        size = s.size;
        align = s.align;
        base = based i;
        region = region i;
        origin = module_in (map (λ (o : Origin). o.sections) origins) n;
        copy = nat_le (first_copy l) n;
      } ∷ later i

  -- what is shown of the located sections is what the map shows
  pub shown-is : AreRegions → shown_sections origins regions (first_copy l) (placed_sections (layout_bases l) all)
      ≡ map (mapped_section origins l) (enumerate_from 0 all)
  shown-is are = shown-from are 0 all (λ i s e. (let same : 0 + i ≡ i = omega arith in subst (λ (k : ℕ). slice_get all k ≡ Some s) (sym same) e))

extents-from : (origins : List Origin) (regions : List (Option ℕ)) (copies n : ℕ) (sections : List Section)
    → map extent_of (map (shown_section origins regions copies) (enumerate_from n sections)) ≡ map section_extent (enumerate_from n sections)
extents-from origins regions copies n [] = refl
extents-from origins regions copies n (s ∷ sections) = ap (λ more. section_extent (n, s) ∷ more) (extents-from origins regions copies (n + 1) sections)

-- the extents of what is shown
pub shown-extents : (origins : List Origin) (regions : List (Option ℕ)) (copies : ℕ) (sections : List Section)
    → map extent_of (shown_sections origins regions copies sections) ≡ section_extents sections
shown-extents origins regions copies sections = extents-from origins regions copies 0 sections

-- ---- the commons that were placed

bare-placed : (at : List ℕ) (n : ℕ) (sections : List Section) → map bare (map (placed_section at) (enumerate_from n sections)) ≡ map bare sections
bare-placed at n [] = refl
bare-placed at n (s ∷ sections) = ap (λ more. bare s ∷ more) (bare-placed at (n + 1) sections)

bare-later : (at : List ℕ) (n k : ℕ) (sections : List Section) → map bare (drop k (map (placed_section at) (enumerate_from n sections)))
    ≡ map bare (drop k sections)
bare-later at n zero sections = bare-placed at n sections
bare-later at n (suc k) [] = refl
bare-later at n (suc k) (s ∷ sections) = bare-later at (n + 1) k sections

bare-commons : (asked : List (List ℕ × ℕ)) (names : List (List ℕ)) → map bare (map (common_section asked) names) ≡ map (common_section asked) names
bare-commons asked [] = refl
bare-commons asked (name ∷ names) = ap (λ more. common_section asked name ∷ more) (bare-commons asked names)

bare-asked : (ms : List Parts) (plan : Plan) → map bare (placed_commons ms plan) ≡ placed_commons ms plan
bare-asked ms plan = by_region (has_common plan.regions) where
  by_region : (b : Bool) → map bare (if b then common_sections ms else []) ≡ (if b then common_sections ms else [])
  by_region true = bare-commons (commons ms) (distinct bytes_eq (common_names ms))
  by_region false = refl

-- The located sections after those of the modules are the commons, as they were placed, and the copies.
pub commons-again : (ms : List Parts) (plan : Plan) (at : List ℕ) (copied : List Section)
    → map bare (take (length (placed_commons ms plan))
    (drop (length (flat_sections ms)) (placed_sections at ((flat_sections ms ++ placed_commons ms plan) ++ copied)))) ≡ placed_commons ms plan
commons-again ms plan at copied =
    let own = flat_sections ms in let asked = placed_commons ms plan in
    bare-taken (length asked) (drop (length own) (placed_sections at ((own ++ asked) ++ copied)))
    ∙ ap (take (length asked)) (bare-later at 0 (length own) ((own ++ asked) ++ copied))
    ∙ sym (bare-taken (length asked) (drop (length own) ((own ++ asked) ++ copied)))
    ∙ ap (λ list. map bare (take (length asked) list)) (ap (drop (length own)) (append_assoc own asked copied) ∙ drop-append_seam own (asked ++ copied))
    ∙ ap (map bare) (take-append_seam asked copied) ∙ bare-asked ms plan where
      bare-taken : (k : ℕ) (sections : List Section) → map bare (take k sections) ≡ take k (map bare sections)
      bare-taken zero sections = refl
      bare-taken (suc k) [] = refl
      bare-taken (suc k) (s ∷ sections) = ap (λ more. bare s ∷ more) (bare-taken k sections)

-- ---- totals

count-from : (origins : List Origin) (regions : List (Option ℕ)) (copies n : ℕ) (sections : List Section)
    → length (map (shown_section origins regions copies) (enumerate_from n sections)) ≡ length sections
count-from origins regions copies n [] = refl
count-from origins regions copies n (s ∷ sections) = ap suc (count-from origins regions copies (n + 1) sections)

sizes-from : (origins : List Origin) (regions : List (Option ℕ)) (copies n : ℕ) (sections : List Section)
    → sum_by (λ (s : MappedSection). s.size) (map (shown_section origins regions copies) (enumerate_from n sections)) ≡ sum_by (λ (s : Section). s.size) sections
sizes-from origins regions copies n [] = refl
sizes-from origins regions copies n (s ∷ sections) =
    let a = sum_by-cons (λ (t : MappedSection). t.size) (shown_section origins regions copies (n, s))
    (map (shown_section origins regions copies) (enumerate_from (n + 1) sections)) in
    let b = sum_by-cons (λ (t : Section). t.size) s sections in
    let rest = sizes-from origins regions copies (n + 1) sections in
    omega (arith, a, b, rest)

pub shown-count : (origins : List Origin) (regions : List (Option ℕ)) (copies : ℕ) (sections : List Section)
    → length (shown_sections origins regions copies sections) ≡ length sections
shown-count origins regions copies sections = count-from origins regions copies 0 sections

pub shown-sizes : (origins : List Origin) (regions : List (Option ℕ)) (copies : ℕ) (sections : List Section)
    → sum_by (λ (s : MappedSection). s.size) (shown_sections origins regions copies sections) ≡ sum_by (λ (s : Section). s.size) sections
shown-sizes origins regions copies sections = sizes-from origins regions copies 0 sections
