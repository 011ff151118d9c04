use Rattle.std.proofs.Common.{◌≡◌, drop, None}
use Rattle.std.specs.List.{list_any}
use Rattle.mufom_module.specs.Contents.{placed_from}
use Rattle.mufom_module.specs.Defects.{loads_nowhere}
use Rattle.mufom_module.proofs.rules.loads_nowhere.Given as goal

-- the remaining loads decide
abbrev pub invariant-loop-load : goal.invariant-loop-load
invariant-loop-load l = list_any loads_nowhere (placed_from None l.load-items) ≡ list_any loads_nowhere (placed_from l.current (drop l.load-index l.load-items))
