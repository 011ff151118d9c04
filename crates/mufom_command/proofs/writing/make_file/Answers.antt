use Rattle.mufom_command.proofs.MakingLaws.{cut-made}
use Rattle.mufom_module.specs.Written.{written}
use Rattle.mufom_command.proofs.writing.make_file.Goals as goal

pub returns-in-Err : goal.returns-in-Err
returns-in-Err g c =
    cut-made c.args.name.now (written c.args.module.now) (g.H.World.meaning c.args.host.now) (g.H.World.meaning c.create.new.self)
    (g.H.World.meaning c.write_module.new.sink) (g.H.World.meaning c.finish.new.self)
    (g.H.World.faults c.args.host.now) (g.H.World.faults c.create.new.self) (g.H.World.faults c.write_module.new.sink) (g.H.World.faults c.finish.new.self)
    c.in-Ok.ensures.creates c.in-Ok.ensures.stays c.in-Ok.ensures.counts c.in-Ok.ensures.cause.later
    c.in-Ok-write_module.ensures.whole c.in-Ok-write_module.ensures.only.0 c.in-Ok-write_module.ensures.only.1 c.in-Ok-write_module.ensures.only.2
    c.in-Err.ensures.stays c.in-Err.ensures.counts c.in-Err.ensures.cause.later c.in-Err.ensures.finishes c.in-Err.ensures.cause.failed
