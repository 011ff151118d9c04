use Rattle.mufom_command.proofs.MakingLaws.{cut-made}
use Rattle.mufom_write.specs.Range.{range_image}
use Rattle.mufom_command.proofs.writing.make_range_file.Goals as goal

pub returns-in-Err : goal.returns-in-Err
returns-in-Err g c =
    cut-made c.args.name.now (range_image c.args.fill c.args.from c.args.count c.args.runs.now) (g.H.World.meaning c.args.host.now)
    (g.H.World.meaning c.create.new.self)
    (g.H.World.meaning c.write_range.new.sink) (g.H.World.meaning c.finish-finished.new.self)
    (g.H.World.faults c.args.host.now) (g.H.World.faults c.create.new.self) (g.H.World.faults c.write_range.new.sink)
    (g.H.World.faults c.finish-finished.new.self)
    c.in-Ok.ensures.creates c.in-Ok.ensures.stays c.in-Ok.ensures.counts c.in-Ok.ensures.cause.later
    c.in-Ok-write_range.ensures.whole c.in-Ok-write_range.ensures.only.0 c.in-Ok-write_range.ensures.only.1 c.in-Ok-write_range.ensures.only.2
    c.in-Err.ensures.stays c.in-Err.ensures.counts c.in-Err.ensures.cause.later c.in-Err.ensures.finishes c.in-Err.ensures.cause.failed
