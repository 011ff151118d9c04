-- Placing sections one after another, entry by entry.
use Rattle.std.specs.Prelude.{ℕ, ◌+◌, ◌^◌, ◌<◌, ◌≤◌, List, [], ◌∷◌, ◌++◌, length, take, drop}
use Rattle.std.specs.List.{flat_map}
use Rattle.mufom_numbers.specs.declared.limits.TheConstants.{MOST_ALIGNMENT}
use Rattle.mufom_plan.specs.declared.plan.Region.{Region}
use Rattle.mufom_place.specs.declared.placing.Waiting.{Waiting}
use Rattle.mufom_place.specs.declared.placing.Placing.{Placing}
use Rattle.mufom_place.specs.Bases.{aligned_up, packed, commons_in}

-- a section that waits has an alignment of at least 1 and at most 2^31
pub record IsAlignedWaiting (w : Waiting) : Type 0 where
  pub least : 1 ≤ w.align
  pub most : w.align ≤ MOST_ALIGNMENT

-- a base so low that its sum with a size does not overflow 128 bits
abbrev pub IsLow : Placing → Type 0
IsLow p = p.base < 2 ^ 100

-- the end of the last of the sections that are placed from an address on
abbrev pub end_of : ℕ → List Waiting → ℕ
end_of address [] = address
end_of address (w ∷ more) = end_of (aligned_up w.align address + w.size) more

-- the bases that regions give, the first of which is at position `n`; each region takes as many of the entries as its list has names
abbrev pub placings_from : ℕ → List Region → List (List Waiting) → List Waiting → List Placing
placings_from n [] entries commons = []
placings_from n (region ∷ regions) entries commons =
    packed n region.base (flat_map (λ waiting. waiting) (take (length region.sections) entries) ++ commons_in region commons)
    ++ placings_from (n + 1) regions (drop (length region.sections) entries) commons
