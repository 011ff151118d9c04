-- Laws of locating by plans with symbols and copies.
use Rattle.std.specs.Prelude.{◌≡◌, ◌≢◌, ◌↔◌, ℕ, ◌+◌, ◌*◌, ◌^◌, ◌<◌, ◌≤◌, List, [], ◌∷◌, length, sum_by, None, option_map}
use Rattle.std.specs.List.{AllByRecursion}
use Rattle.mufom_numbers.specs.declared.limits.TheConstants.{MOST_PLAN_BYTES}
use Rattle.mufom_names.specs.Names.{AreDistinct}
use Rattle.mufom_module.specs.declared.module.Parts.{Parts}
use Rattle.mufom_module.specs.Defects.{IsValid}
use Rattle.mufom_module.specs.Written.{weight}
use Rattle.mufom_plan.specs.declared.plan.Region.{Region}
use Rattle.mufom_plan.specs.declared.plan.Plan.{Plan}
use Rattle.mufom_plan.specs.declared.plan.PlanSymbol.{PlanSymbol}
use Rattle.mufom_plan.specs.Names.{AreDistinctNames, symbol_names}
use Rattle.mufom_plan.specs.Symbols.{names_size, HaveShortNames}
use Rattle.mufom_meaning.specs.declared.located.LocatedParts.{LocatedParts}
use Rattle.mufom_meaning.specs.Flat.{flat_sections, public_names}
use Rattle.mufom_meaning.specs.Counts.{loaded_total}
use Rattle.mufom_meaning.specs.LinkAnswer.{link_answer}
use Rattle.mufom_meaning.specs.LocateAnswer.{locate_answer}
use Rattle.mufom_meaning.specs.Location.{IsLocation}
use Rattle.mufom_meaning.specs.LocationLaws.{asking_count}
use Rattle.mufom_meaning.specs.Absolute.{absolute_of, no_regions}
use Rattle.mufom_meaning.specs.Staging.{AreValid, HaveDescriptor, IsStaged}
use Rattle.mufom_meaning.specs.StagingLaws.{total_weight, MeansTheSame}
use Rattle.mufom_planned.specs.Layout.{layout}
use Rattle.mufom_planned.specs.PlanSymbols.{followed_by, with_names, with_symbols, first_shared}
use Rattle.mufom_planned.specs.Planned.{of_list, planned_answer, IsPlanned}
use Rattle.mufom_planned.specs.Shown.{shown_list}

-- the symbols of a plan have different names, which are no longer together than the text of a plan
pub record HasSoundSymbols (plan : Plan) : Type 0 where
  pub distinct : AreDistinctNames (symbol_names plan.symbols)
  pub short : HaveShortNames plan.symbols

-- Two lists are located alike by a plan: the same fact is returned in place of a location, and they have the same location. If no symbol
-- has the name of a public, they mean the same with the symbols.
pub record AreLocatedAlike (ms others : List Parts) (plan : Plan) : Type 0 where
  pub answers : planned_answer ms plan ≡ planned_answer others plan
  pub locations : (r : LocatedParts) → IsPlanned ms plan r ↔ IsPlanned others plan r
  pub meaning : first_shared others plan ≡ None → MeansTheSame (with_symbols ms plan) (with_symbols others plan)
  pub shown : first_shared others plan ≡ None → MeansTheSame (shown_list ms plan) (shown_list others plan)

-- A list that results from linking modules in whatever stages is located as the list of the original modules. d is any module with
-- the descriptor of the list.
abbrev pub StagedPlansMeanTheSame : Type 0
StagedPlansMeanTheSame =
    (d : Parts) (ms leaves : List Parts) (plan : Plan) → IsStaged ms leaves → AreValid leaves → HaveDescriptor d leaves
    → AreDistinct (public_names leaves) → HasSoundSymbols plan
    → AreLocatedAlike ms leaves plan

-- each region is loaded where it is
abbrev pub AreLoadedInPlace : List Region → Type 0
AreLoadedInPlace regions = AllByRecursion (λ region. region.load ≡ None) regions

-- A plan without symbols, all of whose regions are loaded where they are, means what it means without symbols and copies.
abbrev pub PlainPlansMeanTheSame : Type 0
PlainPlansMeanTheSame =
    (ms : List Parts) (plan : Plan) → plan.symbols ≡ [] → AreLoadedInPlace plan.regions
    → (planned_answer ms plan ≡ option_map of_list (locate_answer ms plan)) × ((r : LocatedParts) → IsPlanned ms plan r ↔ IsLocation ms plan r)

-- The list with the plan's symbols has no defect, and nothing keeps it from being linked, or from being located without copies. So what
-- is said of such lists holds of it.
pub record IsLocatableWithSymbols (ms : List Parts) (plan : Plan) : Type 0 where
  pub valid : AreValid (with_symbols ms plan)
  pub links : link_answer (with_symbols ms plan) ≡ None
  pub locates : locate_answer (with_symbols ms plan) plan ≡ None

-- This holds for each list that is located by a plan.
abbrev pub PlannedIsLocatable : Type 0
PlannedIsLocatable =
    (ms : List Parts) (plan : Plan) → AreValid ms → HasSoundSymbols plan → link_answer ms ≡ None → planned_answer ms plan ≡ None
    → IsLocatableWithSymbols ms plan

-- If nothing is returned in place of a location of a list without a defect that can be linked, and the list is not empty, it has one.
abbrev pub PlannedLocationsExist : Type 0
PlannedLocationsExist =
    (ms : List Parts) (plan : Plan) → ms ≢ [] → AreValid ms → HasSoundSymbols plan → link_answer ms ≡ None → planned_answer ms plan ≡ None
    → (r : LocatedParts) × IsPlanned ms plan r

-- The public names of a list with symbols behind it do not depend on the values of the symbols.
abbrev pub NamesDoNotDependOnValues : Type 0
NamesDoNotDependOnValues =
    (ms : List Parts) (symbols : List PlanSymbol) (numbers others : PlanSymbol → ℕ)
    → public_names (followed_by ms numbers symbols) ≡ public_names (followed_by ms others symbols)

-- Where a plan puts a list with symbols behind it does not depend on the values of the symbols.
abbrev pub PlacementDoesNotDependOnValues : Type 0
PlacementDoesNotDependOnValues =
    (ms : List Parts) (plan : Plan) (symbols : List PlanSymbol) (numbers others : PlanSymbol → ℕ)
    → layout (followed_by ms numbers symbols) plan ≡ layout (followed_by ms others symbols) plan

-- So the layout of the list with the plan's symbols is that from which their values are computed.
abbrev pub SymbolsHaveTheirOwnLayout : Type 0
SymbolsHaveTheirOwnLayout = (ms : List Parts) (plan : Plan) → layout (with_symbols ms plan) plan ≡ layout (with_names ms plan) plan

-- A list has at most one location by a plan.
abbrev pub PlannedLocationIsSingle : Type 0
PlannedLocationIsSingle = (ms : List Parts) (plan : Plan) (r q : LocatedParts) → IsPlanned ms plan r → IsPlanned ms plan q → r ≡ q

-- Locating the absolute module of a location by a plan alone, by a plan without regions, results in the same location.
abbrev pub PlannedAbsoluteIsLocatedAsItself : Type 0
PlannedAbsoluteIsLocatedAsItself =
    (ms : List Parts) (plan : Plan) (r : LocatedParts) → AreValid ms → HasSoundSymbols plan → IsPlanned ms plan r
    → IsLocation (absolute_of r ∷ []) no_regions r

-- the sum of the lengths of the names of regions, with one more byte for each
abbrev pub regions_size : List Region → ℕ
regions_size regions = sum_by (λ region. length region.name + 1) regions

-- the names of the regions are no longer together than the text of a plan
abbrev pub HaveShortRegions : Plan → Type 0
HaveShortRegions plan = regions_size plan.regions ≤ MOST_PLAN_BYTES

-- The absolute module of a location by a plan has no defect, if its weight is below 2^32.
abbrev pub PlannedAbsoluteIsValid : Type 0
PlannedAbsoluteIsValid =
    (ms : List Parts) (plan : Plan) (r : LocatedParts) → AreValid ms → HasSoundSymbols plan → HaveShortRegions plan → IsPlanned ms plan r
    → weight (absolute_of r) < 2 ^ 32 → IsValid (absolute_of r)

-- a bound on what the symbols and the copies of a plan add to the weight of a module
abbrev pub most_plan_weight : Plan → ℕ
most_plan_weight plan = 156 + 33 * names_size plan.symbols + 84 * regions_size plan.regions

-- The absolute module of a location by a plan weighs at most as much as the list, plus 31 for each section, 31 for each loaded byte, 42
-- for each weak reference of a size above 0, and what the symbols and copies add.
abbrev pub PlannedAbsoluteWeighs : Type 0
PlannedAbsoluteWeighs =
    (ms : List Parts) (plan : Plan) (r : LocatedParts) → AreValid ms → HasSoundSymbols plan → IsPlanned ms plan r
    → weight (absolute_of r)
    ≤ total_weight ms + 31 * length (flat_sections ms) + 31 * loaded_total ms + 42 * asking_count ms + most_plan_weight plan
