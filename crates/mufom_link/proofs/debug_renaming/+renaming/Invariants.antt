use Rattle.mufom_link.specs.Renaming.{renaming_of, renamed_mark}
use Rattle.mufom_link.proofs.MarkLoops.{HaveMarks}
use Rattle.mufom_link.proofs.debug_renaming.+renaming.Given as goal

abbrev pub invariant-renamed_items-loop-item : goal.invariant-renamed_items-loop-item
invariant-renamed_items-loop-item l = HaveMarks (renamed_mark (renaming_of l.site)) l.fn.items l.item-items l.item-index
