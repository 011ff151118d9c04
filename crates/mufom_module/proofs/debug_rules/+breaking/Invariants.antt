use Rattle.std.proofs.Common.{◌≡◌, drop}
use Rattle.std.specs.List.{list_any}
use Rattle.mufom_debug.specs.Marks.{marks_of}
use Rattle.mufom_module.specs.Defects.{breaks}
use Rattle.mufom_module.proofs.debug_rules.+breaking.Given as goal

-- the remaining items decide
abbrev pub invariant-any_breaks-loop-item : goal.invariant-any_breaks-loop-item
invariant-any_breaks-loop-item l = list_any (breaks l.rule) (marks_of l.items) ≡ list_any (breaks l.rule) (marks_of (drop l.item-index l.items))
