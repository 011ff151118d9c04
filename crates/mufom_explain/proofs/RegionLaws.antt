-- How far a region is filled, by the ends of what it places.
use Rattle.std.proofs.Common.{◌≡◌, ℕ, ◌+◌, ◌-◌, List, [], ◌∷◌, map, get_or, Option, Some, None, Bool, true, false, refl, ap, ◌∙◌, arith}
use Rattle.std.specs.Prelude.{max, option_map, slice_get, unwrap_or, ◌==◌, if◌then◌else◌}
use Rattle.std.proofs.lemmas.Option.{slice_get_within}
use Rattle.mufom_sections.specs.declared.section.Section.{Section}
use Rattle.mufom_plan.specs.declared.plan.Region.{Region}
use Rattle.mufom_place.specs.declared.placing.Placing.{Placing}
use Rattle.mufom_place.specs.Copies.{ends_in, filled_to, greatest, placed_by, placed_end, region_base}
use Rattle.mufom_planned.specs.Layout.{Layout, layout_placings, whole_list}
use Rattle.mufom_locating.specs.Ends.{AreEnds}
use Rattle.mufom_explain.specs.Region.{end_in, greatest_end, size_of, taken_in}

same-size : (o : Option Section) → unwrap_or (option_map (λ (s : Section). s.size) o) 0 ≡ size_of o
same-size None = refl
same-size (Some s) = refl

greatest-ends : (all : List Section) (region x : ℕ) (ps : List Placing) → greatest x (ends_in all region ps) ≡ max x (greatest_end all region ps)
greatest-ends all region x [] = let same : x ≡ max x 0 = omega arith in same
greatest-ends all region x (p ∷ ps) = by_case (p.region == region) (λ y. greatest-ends all region y ps) where
  rest : ℕ
  rest = greatest_end all region ps

  by_case : (b : Bool) → ((y : ℕ) → greatest y (ends_in all region ps) ≡ max y rest)
      → greatest x (map (placed_end all) (if b then p ∷ placed_by region ps else placed_by region ps))
      ≡ max x (max (if b then p.base + size_of (slice_get all p.section) else 0) rest)
  by_case true later =
      let end : placed_end all p ≡ p.base + size_of (slice_get all p.section) = ap (λ n. p.base + n) (same-size (slice_get all p.section)) in
      let turned : max (max x (placed_end all p)) rest ≡ max x (max (placed_end all p) rest) = omega arith in
      later (max x (placed_end all p)) ∙ turned ∙ ap (λ n. max x (max n rest)) end
  by_case false later = let same : max x rest ≡ max x (max 0 rest) = omega arith in later x ∙ same

-- the distance from a region's base to its end
pub taken-in : (l : Layout) (ends : List ℕ) (n : ℕ) (region : Region) → AreEnds l ends → slice_get l.plan.regions n ≡ Some region
    → get_or ends n 0 - region.base ≡ taken_in l n region
taken-in l ends n region h at =
    let inside = slice_get_within l.plan.regions n region at in
    let own = ap (λ o. unwrap_or (option_map (λ (r : Region). r.base) o) 0) at in
    let end = h.each n inside ∙ ap (λ b. greatest b (ends_in (whole_list l) n (layout_placings l))) own
    ∙ greatest-ends (whole_list l) n region.base (layout_placings l) in
    let less : max region.base (greatest_end (whole_list l) n (layout_placings l)) - region.base
    ≡ greatest_end (whole_list l) n (layout_placings l) - region.base = omega arith in
    ap (λ m. m - region.base) end ∙ less
