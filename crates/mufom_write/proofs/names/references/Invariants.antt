use Rattle.std.proofs.Common.{drop}
use Rattle.mufom_module.specs.Written.{shortest, each_from, each, reference}
use Rattle.mufom_write.specs.Writing.{LeadsTo}
use Rattle.mufom_write.proofs.names.references.Given as goal

abbrev pub invariant-loop-place : goal.invariant-loop-place
invariant-loop-place g l = LeadsTo g.K.Output.takes l.fn.out l.out (each_from l.place (reference shortest) (drop l.place l.references))
    (each (reference shortest) l.references)
