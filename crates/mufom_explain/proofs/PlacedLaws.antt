-- What is known of a module that is not located: how many units an address has, and that each section has a place, if one does not fit. And
-- what needs no copies.
use Rattle.std.proofs.Common.{◌≡◌, ◌≢◌, ℕ, ◌+◌, ◌-◌, ◌<◌, List, [], ◌∷◌, ◌++◌, length, Option, Some, None, Bool, true, false, refl, sym, ap, subst, ◌∙◌, append-nil}
use Rattle.std.proofs.Common.{arith}
use Rattle.std.specs.Prelude.{option_map, slice_get, if◌then◌else◌}
use Rattle.mufom_numbers.proofs.Choices.{not_le}
use Rattle.mufom_sections.specs.declared.section.Section.{Section}
use Rattle.mufom_module.specs.declared.module.Parts.{Parts}
use Rattle.mufom_module.specs.Defects.{IsValid}
use Rattle.mufom_plan.specs.declared.plan.Plan.{Plan}
use Rattle.mufom_plan.specs.Names.{listed_names}
use Rattle.mufom_place.specs.declared.refusal.PlaceRefusal.{PlaceRefusal}
use Rattle.mufom_place.specs.declared.refusal.PlaceRefusal.TheVariants.{Unplaced}
use Rattle.mufom_place.specs.Bases.{Numbered, numbered}
use Rattle.mufom_place.specs.Facts.{◌or_else◌, first_some, is_unplaced, unplaced_at}
use Rattle.mufom_meaning.specs.Facts.{LocateFact, placement}
use Rattle.mufom_meaning.specs.Flat.{flat_sections}
use Rattle.mufom_planned.specs.Planned.{copied_answer}
use Rattle.mufom_meaning.proofs.CallLaws.{modules_may_be_placed}
use Rattle.mufom_place.specs.declared.placing.RegionCopy.{RegionCopy}
use Rattle.mufom_text.specs.Fitting.{IsUnitCount}
use Rattle.mufom_explain.specs.Details.{Explained, commons_of, entry_lines, lines_among, sections_of}
use Rattle.mufom_explain.specs.Lines.{copied_line}

pub unit-count : (m : Parts) (plan : Plan) → IsValid m → IsUnitCount m.maus
unit-count m plan valid =
    let may = modules_may_be_placed m plan valid in
    let low = may.addresses.least in
    let high = may.addresses.most in
    record { some = omega (arith, low); few = omega (arith, high) }

-- the first section that no region takes is unplaced, which is no other error
unplaced-only : (listed : List (List ℕ)) (xs : List Numbered) (q : PlaceRefusal) → first_some (unplaced_at listed) xs ≡ Some q → (n : ℕ) × (q ≡ Unplaced n)
unplaced-only listed [] q e = absurd cc
unplaced-only listed (x ∷ xs) q e = by_case (is_unplaced listed x.1) e (unplaced-only listed xs q) where
  by_case : (b : Bool) → ((if b then Some (Unplaced x.0) else None) or_else first_some (unplaced_at listed) xs) ≡ Some q
      → (first_some (unplaced_at listed) xs ≡ Some q → (n : ℕ) × (q ≡ Unplaced n)) → (n : ℕ) × (q ≡ Unplaced n)
  by_case true h later = (x.0, (let same : Unplaced x.0 ≡ q = cc in sym same))
  by_case false h later = later h

first-of : (o more : Option PlaceRefusal) (rest : Option LocateFact) (q : PlaceRefusal) → o ≡ Some q
    → (option_map placement (o or_else more) or_else rest) ≡ Some (placement q)
first-of o more rest q e = ap (λ (p : Option PlaceRefusal). option_map placement (p or_else more) or_else rest) e

same-placement : (q r : PlaceRefusal) → ◌≡◌ {A = Option LocateFact} (Some (placement q)) (Some (placement r)) → q ≡ r
same-placement q r e = cc

-- no section is unplaced if another error of placing is returned
pub all-placed : (m : Parts) (plan : Plan) (r : PlaceRefusal) → ((n : ℕ) → r ≢ Unplaced n) → copied_answer (m ∷ []) plan ≡ Some (placement r)
    → first_some (unplaced_at (listed_names plan.regions)) (numbered m.sections) ≡ None
all-placed m plan r other h =
    subst (λ (own : List Section). first_some (unplaced_at (listed_names plan.regions)) (numbered own) ≡ None) (append-nil m.sections)
    (by_case (first_some (unplaced_at (listed_names plan.regions)) (numbered (flat_sections (m ∷ [])))) refl)
  where
    by_case : (o : Option PlaceRefusal) → first_some (unplaced_at (listed_names plan.regions)) (numbered (flat_sections (m ∷ []))) ≡ o
        → first_some (unplaced_at (listed_names plan.regions)) (numbered (flat_sections (m ∷ []))) ≡ None
    by_case None e = e
    by_case (Some q) e =
        let same : q ≡ r = same-placement q r (sym (first-of _ _ _ q e) ∙ h) in
        let (n, unplaced) = unplaced-only (listed_names plan.regions) (numbered (flat_sections (m ∷ []))) q e in
        absurd (other n (sym same ∙ unplaced))

-- the lines of a section or common need no copies
pub plain-lines : (e : Explained) (copied other : List RegionCopy) (n : ℕ) → n < length (sections_of e) + length (commons_of e)
    → lines_among e copied n ≡ lines_among e other n
plain-lines e copied other n low = none copied ∙ sym (none other) where
  none : (cs : List RegionCopy) → lines_among e cs n ≡ entry_lines e n ++ []
  none cs = ap (λ b. entry_lines e n ++ copied_line n (if b then slice_get cs (n - (length (sections_of e) + length (commons_of e))) else None))
      (not_le (length (sections_of e) + length (commons_of e)) n low)
