use Rattle.std.proofs.Common.{drop}
use Rattle.mufom_module.specs.Written.{shortest, each_from, each, token}
use Rattle.mufom_write.specs.Writing.{LeadsTo}
use Rattle.mufom_write.proofs.fields.expression.Given as goal

abbrev pub invariant-loop-next : goal.invariant-loop-next
invariant-loop-next g l = LeadsTo g.K.Output.takes l.fn.out l.out (each_from l.next-index (λ _. token shortest) (drop l.next-index l.tokens))
    (each (λ _. token shortest) l.tokens)
