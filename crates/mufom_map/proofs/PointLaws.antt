-- How far an address is above points, by the number and the sum of those that are below it; and what sections share with the addresses
-- between two others, by how far these are above their starts and ends.
use Rattle.std.proofs.Common.{◌≡◌, ℕ, zero, suc, ◌+◌, ◌-◌, ◌*◌, ◌<◌, ◌≤◌, List, [], ◌∷◌, length, map, take, get_or, sum_by, refl, arith}
use Rattle.std.specs.Prelude.{sum}
use Rattle.std.specs.List.{enumerate_from}
use Rattle.std.proofs.lemmas.List.Sums.{sum_by-cons}
use Rattle.mufom_sections.specs.declared.section.Section.{Section}
use Rattle.mufom_place.specs.declared.placing.Extent.{Extent}
use Rattle.mufom_map.specs.Points.{above}
use Rattle.mufom_map.specs.Room.{shared, used_between}
use Rattle.mufom_map.specs.Shown.{base_of, end_of, section_extent}

-- an address is above the first points, by their number times itself less their sum, and not above the others
pub above-sum : (a : ℕ) (points : List ℕ) (k : ℕ) → k ≤ length points → ((i : ℕ) → i < k → get_or points i 0 < a)
    → ((i : ℕ) → k ≤ i → i < length points → a ≤ get_or points i 0) → sum_by (above a) points + sum (take k points) ≡ k * a
above-sum a [] zero within below others = omega arith
above-sum a [] (suc k) within below others = absurd (omega (arith, within))
above-sum a (p ∷ points) zero within below others =
    let here : a ≤ p = others 0 (omega arith) (omega arith) in
    let rest = above-sum a points zero (omega arith) (λ i less. absurd (omega (arith, less)))
    (λ i low less. others (suc i) (omega arith) (omega (arith, less))) in
    let first = sum_by-cons (above a) p points in
    omega (arith, here, rest, first)
above-sum a (p ∷ points) (suc k) within below others =
    let here : p < a = below 0 (omega arith) in
    let rest = above-sum a points k (omega (arith, within)) (λ i less. below (suc i) (omega (arith, less)))
    (λ i low less. others (suc i) (omega (arith, low)) (omega (arith, less))) in
    let first = sum_by-cons (above a) p points in
    let total = sum_by-cons (λ (x : ℕ). x) p (take k points) in
    let more : suc k * a ≡ a + k * a = omega arith in
    omega (arith, here, rest, first, total, more)

module _ (from to : ℕ) (order : from ≤ to) where
  shared-sums : (base size : ℕ) (s : Extent) → s.base ≡ base → s.size ≡ size
      → shared from to s + ((to - (base + size)) + (from - base)) ≡ (to - base) + (from - (base + size))
  shared-sums base size s based sized = omega (arith, based, sized)

  pub used-sums : (n : ℕ) (sections : List Section) → used_between from to (map section_extent (enumerate_from n sections))
      + (sum_by (above to) (map end_of sections) + sum_by (above from) (map base_of sections))
      ≡ sum_by (above to) (map base_of sections) + sum_by (above from) (map end_of sections)
  used-sums n [] = omega arith
  used-sums n (s ∷ sections) =
      let here = shared-sums (base_of s) s.size (section_extent (n, s)) refl refl in
      let rest = used-sums (n + 1) sections in
      let a = sum_by-cons (above to) (end_of s) (map end_of sections) in
      let b = sum_by-cons (above from) (base_of s) (map base_of sections) in
      let c = sum_by-cons (above to) (base_of s) (map base_of sections) in
      let d = sum_by-cons (above from) (end_of s) (map end_of sections) in
      omega (arith, here, rest, a, b, c, d)
