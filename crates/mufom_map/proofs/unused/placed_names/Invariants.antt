use Rattle.std.proofs.Common.{◌≡◌, ℕ, List, take}
use Rattle.std.specs.List.{list_any}
use Rattle.mufom_plan.specs.Names.{has_name}
use Rattle.mufom_map.specs.Unused.{waits_as}
use Rattle.mufom_map.proofs.unused.placed_names.Given as goal

abbrev pub invariant-loop-section : goal.invariant-loop-section
invariant-loop-section l = (entry : List ℕ) → has_name l.names entry ≡ list_any (waits_as entry) (take l.section-index l.sections)
