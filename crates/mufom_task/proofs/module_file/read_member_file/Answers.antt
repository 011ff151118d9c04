use Rattle.std.proofs.Common.{Err, ap}
use Rattle.mufom_task.proofs.ModuleFileLaws.{members-read, members-stop}
use Rattle.mufom_task.proofs.module_file.read_member_file.Goals as goal

pub returns-in-Ok-read_members-clause-read : goal.returns-in-Ok-read_members-clause-read
returns-in-Ok-read_members-clause-read g c =
    members-read c.args.options c.args.name.now c.args.number c.args.limit _ _ _ c.in-Ok.ensures.opens.bytes _ c.in-Ok-read_members.ensures.reads

pub returns-in-Err-clause-stops : goal.returns-in-Err-clause-stops
returns-in-Err-clause-stops g c =
    rw (c.outcome_of_members_stop.ensures)
    (members-stop c.args.options c.args.name.now c.args.number c.args.limit _ (g.H.World.meaning c.open.new.self).left
    (g.H.World.meaning c.read_members.new.source).left c.in-Ok.ensures.opens.bytes (g.H.World.faults c.args.host.now) (g.H.World.faults c.open.new.self)
    (g.H.World.faults c.read_members.new.source) c.in-Err.stop c.in-Err.ensures.reads
    (λ is. c.in-Err.ensures.fault (ap (λ s. Err s) is)) c.in-Ok.ensures.cause.later)
