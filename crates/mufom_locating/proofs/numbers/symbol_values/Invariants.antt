use Rattle.std.proofs.Common.{take}
use Rattle.mufom_planned.specs.Layout.{Layout}
use Rattle.mufom_planned.specs.Numbers.{symbol_number}
use Rattle.mufom_locating.specs.Numbered.{AreValues, IsNumbering}
use Rattle.mufom_locating.proofs.numbers.symbol_values.Given as goal

abbrev pub invariant-loop-symbol : goal.invariant-loop-symbol
invariant-loop-symbol l =
    (of : Layout) → IsNumbering of l.numbering
    → AreValues l.maus (λ symbol. symbol_number of symbol.value) (take l.symbol-index l.symbols) l.values.items
