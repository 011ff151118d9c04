use Rattle.std.proofs.Common.{Some, subst, sym}
use Rattle.mufom_outcome.specs.declared.outcome.Outcome.{Outcome}
use Rattle.mufom_task.proofs.InputLaws.{call_between}
use Rattle.mufom_task.proofs.PlanLaws.{unread-plan}
use Rattle.mufom_task.specs.InputsRead.{PlanStops}
use Rattle.mufom_task.proofs.plan_file.read_plan_file.Goals as goal

pub returns-in-Err-clause-stops : goal.returns-in-Err-clause-stops
returns-in-Err-clause-stops g c =
    let old = g.H.World.meaning c.args.host.now in let new = g.H.World.meaning c.read_whole.new.host in
    let before = g.H.World.faults c.args.host.now in let now = g.H.World.faults c.read_whole.new.host in
    subst (λ (o : Outcome). PlanStops (Some c.args.name.now) (call_between old new before now) o) (sym c.without_plan.ensures)
    (unread-plan c.args.name.now old new before now c.in-Err.stop c.in-Err.ensures.stops)
