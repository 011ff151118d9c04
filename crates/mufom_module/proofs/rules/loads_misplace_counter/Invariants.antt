use Rattle.std.proofs.Common.{◌≡◌, drop, None}
use Rattle.std.specs.List.{list_any}
use Rattle.mufom_module.specs.Contents.{placed_from}
use Rattle.mufom_module.specs.Defects.{misplaces_counter}
use Rattle.mufom_module.proofs.rules.loads_misplace_counter.Given as goal

-- the remaining loads decide
abbrev pub invariant-loop-load : goal.invariant-loop-load
invariant-loop-load l = list_any misplaces_counter (placed_from None l.loads) ≡ list_any misplaces_counter (placed_from l.current (drop l.load-index l.loads))
