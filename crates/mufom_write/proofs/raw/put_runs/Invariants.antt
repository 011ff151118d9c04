use Rattle.std.proofs.Common.{drop}
use Rattle.mufom_write.specs.Raw.{raw_image, runs_from}
use Rattle.mufom_write.specs.Writing.{LeadsTo}
use Rattle.mufom_write.proofs.raw.put_runs.Given as goal

abbrev pub invariant-loop-place : goal.invariant-loop-place
invariant-loop-place g l = LeadsTo g.K.Output.takes l.fn.out l.out (runs_from l.fill l.end (drop l.place l.runs)) (raw_image l.fill l.runs)
