-- The number of bytes that a list of modules loads (IEEE Std 695, load commands).
use Rattle.std.specs.Prelude.{ℕ, List, sum_by}
use Rattle.mufom_loads.specs.Lengths.{byte_count, lengths_loaded}
use Rattle.mufom_module.specs.declared.module.Parts.{Parts}
use Rattle.mufom_meaning.specs.Steps.{Step, counter_step, item_step}

-- the number of bytes that all loads put into sections; for a repeat it is a product
abbrev pub loaded_total : List Parts → ℕ
loaded_total ms = sum_by (λ m. lengths_loaded m.loads) ms

-- the number of bytes that a step loads
abbrev pub step_length : Step → ℕ
step_length (counter_step site section t) = 0
step_length (item_step site section item) = byte_count item

-- the number of bytes that steps load
abbrev pub lengths_of_steps : List Step → ℕ
lengths_of_steps more = sum_by step_length more
