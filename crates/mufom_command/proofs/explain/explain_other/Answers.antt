use Rattle.std.proofs.Common.{List, Option, map, refl, subst, ℕ}
use Rattle.std.specs.String.{string_bytes}
use Rattle.mufom_works.proofs.OpenedLaws.{opens-read}
use Rattle.mufom_explain_text.proofs.ExplainReading.{done-explains, never-written, task-explains}
use Rattle.mufom_command.proofs.OtherLaws.{other-explained}
use Rattle.mufom_works.specs.ExplainText.{explain_text}
use Rattle.mufom_works.specs.InputLines.{untried_lines}
use Rattle.mufom_works.specs.Making.{IsPrinted}
use Rattle.mufom_works.specs.WorkEnds.{StopsFor}
use Rattle.mufom_prepare.specs.Ready.{ready_output}
use Rattle.mufom_explain_text.specs.Told.{told_text}
use Rattle.mufom_task.proofs.InputLaws.{call_between}
use Rattle.mufom_task.specs.Calls.{call_of}
use Rattle.mufom_task.specs.Tasks.{inputs_of}
use Rattle.mufom_outcome.specs.declared.outcome.Outcome.TheVariants as outcome
use Rattle.mufom_command.proofs.explain.explain_other.Goals as goal

pub returns-in-Ok : goal.returns-in-Ok
returns-in-Ok g c =
    let words : List (List ℕ) = map (λ word. string_bytes word) c.args.words.now in
    let old = g.H.World.meaning c.args.host.now in let before = g.H.World.faults c.args.host.now in
    let mid = g.H.World.meaning c.prepare.new.host in let between = g.H.World.faults c.prepare.new.host in
    let new = g.H.World.meaning c.print_done.new.host in let now = g.H.World.faults c.print_done.new.host in
    let t = c.args.task.now in let is = c.in-Ok.ensures.ok in
    done-explains words t c.requires.asks old mid before between c.prepare.ensures.only new now c.print_done.ensures.only
    (opens-read (inputs_of t) old mid mid before between is.opened outcome.Done refl refl) (ready_output c.in-Ok.field-0) is.output c.print_done.result
    (subst (λ (o : Option (List ℕ)). IsPrinted (explain_text words outcome.Done (untried_lines o)) (call_between mid new between now) c.print_done.result)
    c.out_of-out.ensures c.print_done.ensures.answer)

pub print_explanation-requires : goal.print_explanation-requires
print_explanation-requires g c =
    never-written (StopsFor c.args.task.now (call_of g.H.World.meaning g.H.World.faults c.args.host.now c.prepare.new.host)) (λ never. never) c.in-Err.answer
    c.in-Err.ensures.err.why

pub returns : goal.returns
returns g c =
    let words : List (List ℕ) = map (λ word. string_bytes word) c.args.words.now in
    let old = g.H.World.meaning c.args.host.now in let before = g.H.World.faults c.args.host.now in
    let mid = g.H.World.meaning c.prepare.new.host in let between = g.H.World.faults c.prepare.new.host in
    let new = g.H.World.meaning c.print_explanation.new.host in let now = g.H.World.faults c.print_explanation.new.host in
    let t = c.args.task.now in let is = c.in-Err.ensures.err in let put = c.print_explanation.ensures in
    let details = told_text c.task_details-details.result in
    task-explains words t c.requires.asks old mid before between c.prepare.ensures.only new now put.only c.in-Err.answer is.opens details
    (λ memory. other-explained t c.requires.sound c.requires.other old mid new before between now put.only c.in-Err.answer is memory c.cause.result details
    c.task_details-details.ensures) c.print_explanation.result put.answer put.told
