-- The symbols of a plan as a module behind the list.
use Rattle.std.specs.Prelude.{ℕ, ◌*◌, ◌%◌, ◌^◌, List, [], ◌∷◌, ◌++◌, map, find, Option}
use Rattle.mufom_expr.specs.Tree.{number}
use Rattle.mufom_names.specs.declared.name.Public.{Public}
use Rattle.mufom_module.specs.declared.module.Parts.{Parts}
use Rattle.mufom_plan.specs.declared.plan.PlanSymbol.{PlanSymbol}
use Rattle.mufom_plan.specs.declared.plan.Plan.{Plan}
use Rattle.mufom_plan.specs.Names.{has_name, symbol_names}
use Rattle.mufom_module.specs.Bare.{bare_parts}
use Rattle.mufom_meaning.specs.Flat.{public_names}
use Rattle.mufom_planned.specs.Layout.{layout}
use Rattle.mufom_planned.specs.Numbers.{symbol_number}

-- a symbol as a public without notes, whose value is a number modulo the address space
abbrev pub symbol_public : ℕ → (PlanSymbol → ℕ) → PlanSymbol → Public
symbol_public modulus numbers symbol = record { name = symbol.name; value = number (numbers symbol % modulus); notes = [] }

-- a module with the descriptor of another one, whose only entries are these symbols
abbrev pub symbols_module : Parts → (PlanSymbol → ℕ) → List PlanSymbol → Parts
symbols_module first numbers symbols = record (bare_parts first.maus first.order) {
  names = record { publics = map (symbol_public (2 ^ (8 * first.maus)) numbers) symbols; references = [] };
}

-- the list with these symbols behind it, if it has a module and there are symbols
abbrev pub followed_by : List Parts → (PlanSymbol → ℕ) → List PlanSymbol → List Parts
followed_by [] numbers symbols = []
followed_by (m ∷ ms) numbers [] = m ∷ ms
followed_by (m ∷ ms) numbers (symbol ∷ more) = (m ∷ ms) ++ symbols_module m numbers (symbol ∷ more) ∷ []

-- The list with the names of the plan's symbols, whatever their values. Names decide what is a common, and so where everything is placed.
abbrev pub with_names : List Parts → Plan → List Parts
with_names ms plan = followed_by ms (λ symbol. 0) plan.symbols

-- the list with the plan's symbols, at their values by the layout of the list with their names
abbrev pub with_symbols : List Parts → Plan → List Parts
with_symbols ms plan = followed_by ms (λ symbol. symbol_number (layout (with_names ms plan) plan) symbol.value) plan.symbols

-- the first symbol that has the name of a public of the list
abbrev pub first_shared : List Parts → Plan → Option (List ℕ)
first_shared ms plan = find (has_name (public_names ms)) (symbol_names plan.symbols)
