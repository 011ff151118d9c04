-- The weight of the literals of a run.
use Rattle.std.specs.Prelude.{ℕ, List, map, sum_by}
use Rattle.mufom_numbers.specs.declared.limits.TheConstants.{MOST_STRING_BYTES}
use Rattle.mufom_loads.specs.declared.load.Item.TheVariants.{Literal}
use Rattle.mufom_loads.specs.declared.load.Load.TheVariants.{One}
use Rattle.mufom_module.specs.Weights.{load_weight}
use Rattle.mufom_meaning.specs.Absolute.{chunks}

-- the literals of these bytes, each as long as possible
abbrev pub literals_weight : List ℕ → ℕ
literals_weight bytes = sum_by load_weight (map (λ chunk. One (Literal chunk)) (chunks MOST_STRING_BYTES bytes))
