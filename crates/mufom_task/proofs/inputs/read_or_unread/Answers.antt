use Rattle.mufom_task.proofs.InputsLaws.{files-opens, files-stops, plan-named, plan-opens, plan-stops}
use Rattle.mufom_task.proofs.inputs.read_or_unread.Goals as goal

pub returns-in-Err-clause-stops : goal.returns-in-Err-clause-stops
returns-in-Err-clause-stops g c =
    plan-stops c.args.inputs.now (g.H.World.meaning c.args.host.now) (g.H.World.meaning c.read_plan_of.new.host) (g.H.World.faults c.args.host.now)
    (g.H.World.faults c.read_plan_of.new.host) c.in-Err.ensures.only c.in-Err.unread.outcome c.in-Err.ensures.stops

pub returns-in-Err-clause-opened : goal.returns-in-Err-clause-opened
returns-in-Err-clause-opened g c =
    plan-opens c.args.inputs.now (g.H.World.meaning c.args.host.now) (g.H.World.meaning c.read_plan_of.new.host) (g.H.World.faults c.args.host.now)
    (g.H.World.faults c.read_plan_of.new.host) c.in-Err.ensures.only c.in-Err.unread.outcome c.in-Err.ensures.stops c.in-Err.ensures.opened

pub returns-in-Err-read_few-clause-stops : goal.returns-in-Err-read_few-clause-stops
returns-in-Err-read_few-clause-stops g c =
    rw c.without_plan.ensures (files-stops c.args.inputs.now (g.H.World.meaning c.args.host.now) (g.H.World.meaning c.read_plan_of.new.host) (g.H.World.faults c.args.host.now)
    (g.H.World.faults c.read_plan_of.new.host) c.in-Ok.ensures.only
    (g.H.World.meaning c.read_few.new.host) (g.H.World.faults c.read_few.new.host) c.in-Ok.plan c.in-Ok.ensures.read c.in-Err-read_few.stop
    c.in-Err-read_few.ensures.stops c.in-Err-read_few.ensures.opened)

pub returns-in-Err-read_few-clause-opened : goal.returns-in-Err-read_few-clause-opened
returns-in-Err-read_few-clause-opened g c =
    rw c.without_plan.ensures (files-opens c.args.inputs.now (g.H.World.meaning c.args.host.now) (g.H.World.meaning c.read_plan_of.new.host) (g.H.World.faults c.args.host.now)
    (g.H.World.faults c.read_plan_of.new.host) c.in-Ok.ensures.only
    (g.H.World.meaning c.read_few.new.host) (g.H.World.faults c.read_few.new.host) c.in-Err-read_few.stop c.in-Ok.ensures.opens
    c.in-Err-read_few.ensures.opened)

pub returns-in-Err-clause-named : goal.returns-in-Err-clause-named
returns-in-Err-clause-named g c =
    plan-named c.args.inputs.now (g.H.World.meaning c.args.host.now) (g.H.World.meaning c.read_plan_of.new.host) (g.H.World.faults c.args.host.now)
    (g.H.World.faults c.read_plan_of.new.host) c.in-Err.ensures.only c.in-Err.unread.outcome c.in-Err.ensures.stops
