use Rattle.std.proofs.Common.{subst}
use Rattle.mufom_command.proofs.DoesLaws.{help-ready, help-stop, put-does, stopped-does}
use Rattle.mufom_prepare.specs.Ready.{ready_output}
use Rattle.mufom_prepare.specs.Prepared.{PrintsHelpText}
use Rattle.mufom_command.proofs.command.carry_out.Goals as goal

pub returns-in-Ok-clause-does : goal.returns-in-Ok-clause-does
returns-in-Ok-clause-does g c =
    let old = g.H.World.meaning c.args.host.now in let before = g.H.World.faults c.args.host.now in
    let mid = g.H.World.meaning c.prepare.new.host in let between = g.H.World.faults c.prepare.new.host in
    let new = g.H.World.meaning c.put_out.new.host in let now = g.H.World.faults c.put_out.new.host in
    let is = c.in-Ok.ensures.ok in
    put-does c.args.task.now old mid new before between now c.prepare.ensures.only is.opened (ready_output c.in-Ok.ready) is.output c.put_out.result
    c.put_out.ensures.puts

pub returns-in-Ok-clause-memory : goal.returns-in-Ok-clause-memory
returns-in-Ok-clause-memory g c = λ help.
    c.put_out.ensures.memory (help-ready c.args.task.now c.in-Ok.ready (subst (PrintsHelpText c.args.task.now) c.in-Ok.is c.prepare.ensures.help) help)

pub returns-in-Err-clause-does : goal.returns-in-Err-clause-does
returns-in-Err-clause-does g c =
    let old = g.H.World.meaning c.args.host.now in let before = g.H.World.faults c.args.host.now in
    let mid = g.H.World.meaning c.prepare.new.host in let between = g.H.World.faults c.prepare.new.host in
    stopped-does c.args.task.now old mid before between c.prepare.ensures.only c.in-Err.stop c.in-Err.ensures.err

pub returns-in-Err-clause-memory : goal.returns-in-Err-clause-memory
returns-in-Err-clause-memory g c = λ help.
    absurd (help-stop c.args.task.now c.in-Err.stop (subst (PrintsHelpText c.args.task.now) c.in-Err.is c.prepare.ensures.help) help)
