use Rattle.std.proofs.Common.{Err, ap}
use Rattle.mufom_task.proofs.ModuleFileLaws.{root-read, root-stops}
use Rattle.mufom_task.proofs.module_file.read_root.Goals as goal

pub returns-in-Ok-only_module-clause-read : goal.returns-in-Ok-only_module-clause-read
returns-in-Ok-only_module-clause-read g c =
    root-read c.args.options c.args.name.now c.args.number c.args.limit _ _ _ c.in-Ok.ensures.opens.bytes _ _ _ c.in-Ok-read_module.ensures.reads
    c.in-Ok-only_module.ensures

pub returns-in-Err-clause-stops : goal.returns-in-Err-clause-stops
returns-in-Err-clause-stops g c =
    rw (c.outcome_of_source_stop.ensures)
    (root-stops c.args.options c.args.name.now c.args.number c.args.limit _ (g.H.World.meaning c.open.new.self).left
    (g.H.World.meaning c.read_module.new.source).left c.in-Ok.ensures.opens.bytes (g.H.World.faults c.args.host.now) (g.H.World.faults c.open.new.self)
    (g.H.World.faults c.read_module.new.source) c.in-Err.stop c.in-Err.ensures.reads
    (λ is. c.in-Err.ensures.fault (ap (λ s. Err s) is)) c.in-Ok.ensures.cause.later)
