use Rattle.std.proofs.Common.{◌≡◌, drop}
use Rattle.mufom_debug.specs.Marks.{marks_of, names_after_all}
use Rattle.mufom_link.proofs.debug_renaming.+names.Given as goal

abbrev pub invariant-names_after-loop-item : goal.invariant-names_after-loop-item
invariant-names_after-loop-item l = names_after_all l.count (marks_of (drop l.item-index l.items)) ≡ names_after_all l.before (marks_of l.items)
