-- The list with the plan's symbols, as it is shown where an error is explained.
use Rattle.std.specs.Prelude.{List, Option, Some, None}
use Rattle.mufom_module.specs.declared.module.Parts.{Parts}
use Rattle.mufom_plan.specs.declared.plan.Plan.{Plan}
use Rattle.mufom_meaning.specs.Facts.{LocateFact}
use Rattle.mufom_planned.specs.Layout.{layout}
use Rattle.mufom_planned.specs.PlanSymbols.{with_names, with_symbols}
use Rattle.mufom_planned.specs.Planned.{layout_fact}

-- what keeps the list with the symbols' names from being placed, if anything
abbrev pub placing_fact : List Parts → Plan → Option LocateFact
placing_fact ms plan = layout_fact (with_names ms plan) (layout (with_names ms plan) plan)

-- The list with the symbols at their values, if everything can be placed. Otherwise they have no addresses, and nothing that is shown depends on
-- their values: they are 0.
abbrev pub shown_if : Option LocateFact → List Parts → Plan → List Parts
shown_if None ms plan = with_symbols ms plan
shown_if (Some fact) ms plan = with_names ms plan

abbrev pub shown_list : List Parts → Plan → List Parts
shown_list ms plan = shown_if (placing_fact ms plan) ms plan
