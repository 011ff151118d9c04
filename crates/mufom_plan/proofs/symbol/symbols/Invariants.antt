use Rattle.std.proofs.Common.{◌≡◌, ◌+◌, drop, map, length, []}
use Rattle.mufom_numbers.specs.declared.limits.TheConstants.{MOST_PLAN_BYTES}
use Rattle.toml.specs.View.{view}
use Rattle.mufom_plan.specs.Names.{symbol_names}
use Rattle.mufom_plan.specs.Symbols.{names_size}
use Rattle.mufom_plan.specs.PlanText.{symbols_of, after_symbols}
use Rattle.mufom_plan.proofs.symbol.symbols.Given as goal

-- the symbols so far are read, and the rest of the array decides the rest
abbrev pub invariant-loop-place : goal.invariant-loop-place
invariant-loop-place l = record {
  count : length l.symbols ≡ l.place;
  named : l.names ≡ symbol_names l.symbols;
  room : l.room + names_size l.symbols ≡ MOST_PLAN_BYTES;
  rest : symbols_of l.listed l.regions [] (map view l.values)
      ≡ after_symbols l.symbols (symbols_of l.listed l.regions l.symbols (map view (drop l.place l.values)));
}
