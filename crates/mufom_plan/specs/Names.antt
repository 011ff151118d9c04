-- Names as bytes, and the names that a plan has.
use Rattle.std.specs.Prelude.{ℕ, List, Bool, map, Option, position}
use Rattle.std.specs.List.{list_any, flat_map, IsDistinct}
use Rattle.std.specs.Str.{bytes_eq}
use Rattle.mufom_plan.specs.declared.plan.Region.{Region}
use Rattle.mufom_plan.specs.declared.plan.PlanSymbol.{PlanSymbol}

-- the name is among these names
abbrev pub has_name : List (List ℕ) → List ℕ → Bool
has_name names name = list_any (bytes_eq name) names

-- no name occurs twice among these names
abbrev pub AreDistinctNames : List (List ℕ) → Type 0
AreDistinctNames = IsDistinct bytes_eq

-- the names of regions, in order
abbrev pub region_names : List Region → List (List ℕ)
region_names regions = map (λ region. region.name) regions

-- the section names of all lists, in order
abbrev pub listed_names : List Region → List (List ℕ)
listed_names regions = flat_map (λ region. region.sections) regions

-- the names of symbols, in order
abbrev pub symbol_names : List PlanSymbol → List (List ℕ)
symbol_names symbols = map (λ symbol. symbol.name) symbols

-- the position of the region of this name
abbrev pub region_position : List Region → List ℕ → Option ℕ
region_position regions name = position (bytes_eq name) (region_names regions)
