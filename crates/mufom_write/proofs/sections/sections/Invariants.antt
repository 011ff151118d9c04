use Rattle.std.proofs.Common.{drop}
use Rattle.mufom_module.specs.Written.{shortest, each_from, each, section}
use Rattle.mufom_write.specs.Writing.{LeadsTo}
use Rattle.mufom_write.proofs.sections.sections.Given as goal

abbrev pub invariant-loop-place : goal.invariant-loop-place
invariant-loop-place g l = LeadsTo g.K.Output.takes l.fn.out l.out (each_from l.place (section shortest) (drop l.place l.sections))
    (each (section shortest) l.sections)
