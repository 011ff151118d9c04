-- A module without a defect may be placed, and a slice of such modules is a list of them.
use Rattle.std.proofs.Common.{◌≡◌, ℕ, ◌+◌, ◌*◌, ◌<◌, ◌≤◌, ◌^◌, ◌⊎◌, inl, inr, List, [], ◌∷◌, take, drop, length, ◌-◌, None, Bool, true, false, sym}
use Rattle.std.proofs.Common.{◌∙◌, ap, subst, arith, rules, sum_by, append-nil, length-append}
use Rattle.std.specs.Prelude.{nat_le, All, ◌==◌, if◌then◌else◌}
use Rattle.std.specs.Str.{bytes_eq}
use Rattle.std.proofs.Math.Nat.{mul-mod_right}
use Rattle.std.proofs.Math.Seq.{take-append_seam, drop-append_seam}
use Rattle.std.proofs.lemmas.List.{length-map}
use Rattle.std.proofs.lemmas.List.Elements.{All-nil, All-cons, All-head, All-tail}
use Rattle.std.proofs.lemmas.List.Sums.{sum_by-cons}
use Rattle.mufom_numbers.specs.declared.limits.TheConstants.{MOST_ALIGNMENT}
use Rattle.mufom_sections.specs.declared.section.Section.{Section}
use Rattle.mufom_module.specs.declared.module.Parts.{Parts}
use Rattle.mufom_module.specs.declared.module.Defect.TheVariants as d
use Rattle.mufom_module.specs.Written.{weight}
use Rattle.mufom_module.specs.Weights.{section_weight, reference_weight}
use Rattle.mufom_module.specs.Defects.{IsValid, is_unit_count, has_bad_alignment}
use Rattle.mufom_module.proofs.WeightLaws.{weight-sum}
use Rattle.mufom_plan.specs.declared.plan.Plan.{Plan}
use Rattle.mufom_plan.specs.Commons.{has_common}
use Rattle.mufom_place.specs.Facts.{IsAddressWidth, IsAligned, HasNoBase, sections_before, last_sections}
use Rattle.mufom_meaning.specs.Flat.{distinct, flat_sections, flat_references, commons, common_names}
use Rattle.mufom_meaning.specs.Placed.{common_section, common_sections, placed_commons, extended_sections}
use Rattle.mufom_meaning.specs.CallLaws.{MayBePlaced, ModulesMayBePlaced, AreValidIsAll}
use Rattle.mufom_numbers.proofs.Choices.{of_not_lt, of_not_le}
use Rattle.mufom_meaning.proofs.Tests.{le_of, either_false}
use Rattle.mufom_meaning.proofs.facts.Answers.{both, not_false}
use Rattle.mufom_meaning.proofs.Members.{In, In-append, map-In, fails-In, All-In}
use Rattle.mufom_meaning.proofs.NoDefects.{no_defect}
use Rattle.mufom_meaning.proofs.absolute.Entries.{lettered, asked_weight, asked-lighter, lighter-all}
use Rattle.mufom_meaning.proofs.absolute.Weight.{asking, names-lighter}

pub are_valid_is_all : AreValidIsAll
are_valid_is_all [] = (λ h. tt, λ h. All-nil IsValid)
are_valid_is_all (m ∷ ms) = (
  λ h. (All-head IsValid m ms h, (are_valid_is_all ms).0 (All-tail IsValid m ms h)),
  λ h. All-cons IsValid m ms h.0 ((are_valid_is_all ms).1 h.1),
)

-- a number for each element of a list, added up
times : {X : Type 0} (n : ℕ) (xs : List X) → sum_by (λ (x : X). n) xs ≡ n * length xs
times n [] = omega arith
times {X} n (x ∷ xs) =
    let a = sum_by-cons (λ (x : X). n) x xs in let rest = times n xs in
    let more : n * length (x ∷ xs) ≡ n + n * length xs = omega arith in omega (arith, a, rest, more)

units : (n : ℕ) → is_unit_count n ≡ true → (1 ≤ n) × (n ≤ 8)
units n e = let two = both (nat_le 1 n) (nat_le n 8) e in (le_of 1 n two.0, le_of n 8 two.1)

eight_bits : (n : ℕ) → is_unit_count n ≡ true → IsAddressWidth (8 * n)
eight_bits n e = let two = units n e in
    record { least = omega (arith, two.0); most = omega (arith, two.1); whole = mul-mod_right 8 n }

module _ (m : Parts) (plan : Plan) (v : IsValid m) where
  abbrev ms : List Parts
  ms = m ∷ []

  aligned : (section : Section) → In section (extended_sections ms plan) → IsAligned section
  aligned section h = by_list (In-append section (flat_sections ms) (placed_commons ms plan) h) where
    own : In section (flat_sections ms) → IsAligned section
    own k =
        let good = fails-In has_bad_alignment m.sections (no_defect m v d.BadAlign) section (subst (In section) (append-nil m.sections) k) in
        let two = either_false (section.align == 0) _ good in
        let most = of_not_lt MOST_ALIGNMENT section.align two.1 in
        record { least = some section.align two.0; most = most } where
          some : (n : ℕ) → (n == 0) ≡ false → 1 ≤ n
          some n e = search rules

    common : (b : Bool) → In section (if b then common_sections ms else []) → IsAligned section
    common false k = absurd k
    common true k =
        let there = map-In (common_section (commons ms)) section (distinct bytes_eq (common_names ms)) k in
        let align : 8 ≡ section.align = ap (λ (s : Section). s.align) there.2 in
        record { least = omega (arith, align); most = omega (arith, align) }

    by_list : In section (flat_sections ms) ⊎ In section (placed_commons ms plan) → IsAligned section
    by_list (inl k) = own k
    by_list (inr k) = common (has_common plan.regions) k

  baseless : (section : Section) → In section (placed_commons ms plan) → section.base ≡ None
  baseless section = by_region (has_common plan.regions) where
    by_region : (b : Bool) → In section (if b then common_sections ms else []) → section.base ≡ None
    by_region false k = absurd k
    by_region true k =
        let there = map-In (common_section (commons ms)) section (distinct bytes_eq (common_names ms)) k in sym (ap (λ (s : Section). s.base) there.2)

  commons_few : length (placed_commons ms plan) ≤ length (asking ms plan)
  commons_few =
      by_region (has_common plan.regions) (names-lighter ms plan (λ name. 1)) (times 1 (distinct bytes_eq (common_names ms))) (times 1 (asking ms plan))
      (length-map (distinct bytes_eq (common_names ms)) (common_section (commons ms))) where
        by_region : (b : Bool) → sum_by (λ (name : List ℕ). 1) (distinct bytes_eq (common_names ms)) ≤ sum_by (λ r. 1) (asking ms plan)
            → sum_by (λ (name : List ℕ). 1) (distinct bytes_eq (common_names ms)) ≡ 1 * length (distinct bytes_eq (common_names ms))
            → sum_by (λ r. 1) (asking ms plan) ≡ 1 * length (asking ms plan)
            → length (common_sections ms) ≡ length (distinct bytes_eq (common_names ms))
            → length (if b then common_sections ms else []) ≤ length (asking ms plan)
        by_region false a b c e = omega arith
        by_region true a b c e = omega (arith, a, b, c, e)

  few : length (extended_sections ms plan) < 2 ^ 32
  few =
      let light = of_not_le (2 ^ 32) (weight m) (no_defect m v d.Weight) in
      let all = weight-sum m in
      let a = lighter-all (λ (s : Section). 14) section_weight (λ s. let letters = lettered s.absolute in omega (arith, letters)) m.sections in
      let b = times 14 m.sections in
      let c = lighter-all (λ r. 32) asked_weight (λ r. omega arith) (asking ms plan) in
      let d = times 32 (asking ms plan) in
      let e = asked-lighter (flat_references ms) in
      let f : sum_by reference_weight (flat_references ms) ≡ sum_by reference_weight m.names.references =
      ap (sum_by reference_weight) (append-nil m.names.references) in
      let g = commons_few in
      let h : length (flat_sections ms) ≡ length m.sections = ap length (append-nil m.sections) in
      let i = length-append (flat_sections ms) (placed_commons ms plan) in
      omega (arith, light, all, a, b, c, d, e, f, g, h, i)

  pub may_be_placed : MayBePlaced ms plan
  may_be_placed = record {
    addresses = eight_bits m.maus (units_of v);
    alignments = All-In IsAligned (extended_sections ms plan) aligned;
    count = few;
    few = (let all = length-append (flat_sections ms) (placed_commons ms plan) in omega (arith, all));
    somewhere = λ none. ap (λ b. length (if b then common_sections ms else [])) none;
    first = first_part;
    last = last_part;
    without_base = subst (All HasNoBase) (sym last_part) (All-In HasNoBase (placed_commons ms plan) baseless);
  }
    where
      before : length (extended_sections ms plan) - length (placed_commons ms plan) ≡ length (flat_sections ms)
      before = let all = length-append (flat_sections ms) (placed_commons ms plan) in omega (arith, all)

      first_part : sections_before (length (placed_commons ms plan)) (extended_sections ms plan) ≡ flat_sections ms
      first_part = ap (λ n. take n (extended_sections ms plan)) before ∙ take-append_seam (flat_sections ms) (placed_commons ms plan)

      last_part : last_sections (length (placed_commons ms plan)) (extended_sections ms plan) ≡ placed_commons ms plan
      last_part = ap (λ n. drop n (extended_sections ms plan)) before ∙ drop-append_seam (flat_sections ms) (placed_commons ms plan)

      units_of : IsValid m → is_unit_count m.maus ≡ true
      units_of v = not_false (is_unit_count m.maus) (no_defect m v d.BadMaus)

pub modules_may_be_placed : ModulesMayBePlaced
modules_may_be_placed m plan v = may_be_placed m plan v
