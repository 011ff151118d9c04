use Rattle.mufom_link.specs.Renaming.{renaming_of, renamed_item}
use Rattle.mufom_link.proofs.LoopLaws.{AreChanged}
use Rattle.mufom_link.proofs.renaming.rename_items.Given as goal

abbrev pub invariant-loop-item : goal.invariant-loop-item
invariant-loop-item l = AreChanged (renamed_item (renaming_of l.site)) l.fn.items.items l.item-items l.item-index
