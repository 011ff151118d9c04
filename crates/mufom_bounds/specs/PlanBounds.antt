-- The bounds of a plan.
use Rattle.std.specs.Prelude.{ℕ, ◌+◌, ◌≤◌, length}
use Rattle.std.specs.List.{AllByRecursion}
use Rattle.mufom_numbers.specs.Spelling.{AreBytes}
use Rattle.mufom_module.specs.Made.{IsNumber}
use Rattle.mufom_plan.specs.declared.plan.Plan.{Plan}
use Rattle.mufom_plan.specs.declared.plan.PlanSymbol.{PlanSymbol}
use Rattle.mufom_plan.specs.declared.plan.Region.{Region}
use Rattle.mufom_plan.specs.Symbols.{names_size}
use Rattle.mufom_planned.specs.PlanLaws.{regions_size}

-- no more regions than this, and no longer names of regions and of symbols
pub record IsWithin (n : ℕ) (plan : Plan) : Type 0 where
  pub regions : length plan.regions ≤ n
  pub region_names : regions_size plan.regions ≤ n
  pub names : names_size plan.symbols ≤ n

-- the name consists of bytes
abbrev pub HasByteName : PlanSymbol → Type 0
HasByteName symbol = AreBytes symbol.name

-- the name of a region consists of bytes, and its end is a number
pub record IsBoundedRegion (region : Region) : Type 0 where
  pub name : AreBytes region.name
  pub ends : IsNumber (region.base + region.size)

-- the names of the symbols consist of bytes, and the regions are within their bounds
pub record IsBoundedPlan (plan : Plan) : Type 0 where
  pub symbols : AllByRecursion HasByteName plan.symbols
  pub regions : AllByRecursion IsBoundedRegion plan.regions
