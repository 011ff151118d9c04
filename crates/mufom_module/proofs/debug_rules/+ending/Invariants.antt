use Rattle.std.proofs.Common.{◌≡◌, drop}
use Rattle.std.specs.List.{list_any}
use Rattle.mufom_module.specs.Contents.{blocks_of}
use Rattle.mufom_module.specs.Defects.{has_bad_end}
use Rattle.mufom_module.proofs.debug_rules.+ending.Given as goal

-- the remaining items decide
abbrev pub invariant-any_ends_badly-loop-item : goal.invariant-any_ends_badly-loop-item
invariant-any_ends_badly-loop-item l = list_any has_bad_end (blocks_of l.items) ≡ list_any has_bad_end (blocks_of (drop l.item-index l.items))
