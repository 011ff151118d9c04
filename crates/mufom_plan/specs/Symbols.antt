-- The names of a plan's symbols, and their size.
use Rattle.std.specs.Prelude.{ℕ, ◌+◌, ◌≤◌, List, length, sum_by}
use Rattle.mufom_numbers.specs.declared.limits.TheConstants.{MOST_PLAN_BYTES}
use Rattle.mufom_plan.specs.declared.plan.PlanSymbol.{PlanSymbol}

-- the sum of the lengths of the names, with one more byte for each
abbrev pub names_size : List PlanSymbol → ℕ
names_size symbols = sum_by (λ symbol. length symbol.name + 1) symbols

-- the names are no longer together than the text of a plan
abbrev pub HaveShortNames : List PlanSymbol → Type 0
HaveShortNames symbols = names_size symbols ≤ MOST_PLAN_BYTES
