-- The number of entries of each kind in a module is at most its weight.
use Rattle.std.proofs.Common.{ℕ, ◌<◌, ◌≤◌, List, [], ◌∷◌, length, sum_by, arith}
use Rattle.std.proofs.lemmas.List.Sums.{sum_by-cons}
use Rattle.mufom_module.specs.declared.module.Parts.{Parts}
use Rattle.mufom_module.specs.Written.{weight}
use Rattle.mufom_module.specs.Weights.{section_weight, public_weight, reference_weight}
use Rattle.mufom_module.proofs.WeightLaws.{weight-sum}

-- if the weight of each element is above 0, their number is at most their total weight
pub counted : {X : Type 0} (w : X → ℕ) → ((x : X) → 0 < w x) → (xs : List X) → length xs ≤ sum_by w xs
counted w some [] = omega arith
counted w some (x ∷ xs) = let a = some x in let b = sum_by-cons w x xs in let rest = counted w some xs in omega (arith, a, b, rest)

pub sections-count : (m : Parts) → length m.sections ≤ weight m
sections-count m = let a = weight-sum m in let b = counted section_weight (λ s. omega arith) m.sections in omega (arith, a, b)

pub publics-count : (m : Parts) → length m.names.publics ≤ weight m
publics-count m = let a = weight-sum m in let b = counted public_weight (λ p. omega arith) m.names.publics in omega (arith, a, b)

pub references-count : (m : Parts) → length m.names.references ≤ weight m
references-count m = let a = weight-sum m in let b = counted reference_weight (λ r. omega arith) m.names.references in omega (arith, a, b)
