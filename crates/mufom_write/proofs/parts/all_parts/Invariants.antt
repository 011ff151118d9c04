use Rattle.std.proofs.Common.{drop}
use Rattle.mufom_debug.specs.Marks.{joined}
use Rattle.mufom_module.specs.Written.{shortest, parts}
use Rattle.mufom_write.specs.Writing.{LeadsTo}
use Rattle.mufom_write.proofs.parts.all_parts.Given as goal

abbrev pub invariant-loop-number : goal.invariant-loop-number
invariant-loop-number g l = LeadsTo g.K.Output.takes l.fn.out l.out (joined (drop l.number (parts shortest l.parts))) (joined (parts shortest l.parts))
