use Rattle.std.proofs.Common.{drop}
use Rattle.mufom_module.specs.Written.{shortest, each_from, each, note}
use Rattle.mufom_write.specs.Writing.{LeadsTo}
use Rattle.mufom_write.proofs.names.notes.Given as goal

abbrev pub invariant-loop-place : goal.invariant-loop-place
invariant-loop-place g l = LeadsTo g.K.Output.takes l.fn.out l.out (each_from l.place (λ _. note shortest l.letter l.index) (drop l.place l.notes))
    (each (λ _. note shortest l.letter l.index) l.notes)
