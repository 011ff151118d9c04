use Rattle.std.proofs.Common.{drop}
use Rattle.mufom_module.specs.Written.{shortest, each_from, each, number}
use Rattle.mufom_write.specs.Writing.{LeadsTo}
use Rattle.mufom_write.proofs.fields.numbers.Given as goal

abbrev pub invariant-loop-value : goal.invariant-loop-value
invariant-loop-value g l = LeadsTo g.K.Output.takes l.fn.out l.out (each_from l.value-index (λ _. number shortest) (drop l.value-index l.values))
    (each (λ _. number shortest) l.values)
