use Rattle.std.proofs.Common.{drop}
use Rattle.mufom_module.specs.Written.{shortest, each_from, each, offset_record}
use Rattle.mufom_write.specs.Writing.{LeadsTo}
use Rattle.mufom_write.proofs.parts.offset_records.Given as goal

abbrev pub invariant-loop-part : goal.invariant-loop-part
invariant-loop-part g l = LeadsTo g.K.Output.takes l.fn.out l.out (each_from l.part (offset_record shortest) (drop l.part l.offsets))
    (each (offset_record shortest) l.offsets)
