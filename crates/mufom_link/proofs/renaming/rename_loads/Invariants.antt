use Rattle.mufom_link.specs.Renaming.{renaming_of, renamed_load}
use Rattle.mufom_link.proofs.LoopLaws.{AreChanged}
use Rattle.mufom_link.proofs.renaming.rename_loads.Given as goal

abbrev pub invariant-loop-load : goal.invariant-loop-load
invariant-loop-load l = AreChanged (renamed_load (renaming_of l.site)) l.fn.loads.items l.load-items l.load-index
