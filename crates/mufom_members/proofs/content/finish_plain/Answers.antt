use Rattle.std.proofs.Common.{refl}
use Rattle.mufom_read.specs.Reader.{options_of}
use Rattle.mufom_members.proofs.Feeding.{plain_late}
use Rattle.mufom_members.proofs.Taking.{late_by}
use Rattle.mufom_members.proofs.content.finish_plain.Goals as goal

pub returns-in-Err-clause-modules : goal.returns-in-Err-clause-modules
returns-in-Err-clause-modules c = λ limit stream has few.
    plain_late (options_of c.args.reader) limit stream c.in-Err.stop c.stop_by.result c.stop_by.ensures few
    (late_by (options_of c.args.reader) c.args.reader stream c.in-Err.stop has.0 refl c.in-Err.ensures.refused)
