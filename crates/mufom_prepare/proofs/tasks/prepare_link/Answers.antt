use Rattle.std.proofs.Common.{ap, refl, subst, sym}
use Rattle.mufom_works.proofs.EndLaws.{link-ends}
use Rattle.mufom_prepare.proofs.PrepareLaws.{ended, readied, unread}
use Rattle.mufom_prepare.proofs.WorkLaws.{link-gives, link-stops, linking-begins}
use Rattle.mufom_works.specs.Run.{file_name}
use Rattle.mufom_works.specs.WorkEnds.{EndsAt}
use Rattle.mufom_works.specs.Works.{Output, linked_file, work_of}
use Rattle.mufom_groups.specs.Linked.{linked_module}
use Rattle.mufom_groups.specs.Work.{gives, with_stops}
use Rattle.mufom_outcome.specs.Stop.{link_fact}
use Rattle.mufom_outcome.specs.declared.outcome.Outcome.{Outcome}
use Rattle.mufom_task.specs.InputsRead.{inputs_in}
use Rattle.mufom_words.specs.Tree.{tree_of}
use Rattle.mufom_task.specs.declared.task.Task.TheVariants as task
use Rattle.mufom_prepare.proofs.tasks.prepare_link.Goals as goal

pub link_file-requires-clause-linkable : goal.link_file-requires-clause-linkable
link_file-requires-clause-linkable g c = record {
  sound = c.requires.sound;
  count = c.in-Ok.ensures.count;
  few = c.in-Ok.ensures.few;
  valid = c.in-Ok.ensures.valid;
  light = c.in-Ok.ensures.light;
}

pub returns-in-Err-clause-err : goal.returns-in-Err-clause-err
returns-in-Err-clause-err g c =
    let read = c.in-Err.ensures in let inputs = c.args.inputs.now in let name = c.args.name.now in let out = c.args.out.now in
    let old = g.H.World.meaning c.args.host.now in let mid = g.H.World.meaning c.read_inputs.new.host in
    let before = g.H.World.faults c.args.host.now in let between = g.H.World.faults c.read_inputs.new.host in
    unread (task.Link inputs name out) (λ fs. inputs_in fs inputs) refl old mid before between
    (linking-begins (λ ms plan flat. linked_file name out flat) inputs) c.in-Err.stop read.stops read.opened read.named

pub returns-in-Ok-link_file-clause-ok : goal.returns-in-Ok-link_file-clause-ok
returns-in-Ok-link_file-clause-ok g c =
    let read = c.in-Ok.ensures in let inputs = c.args.inputs.now in let name = c.args.name.now in let out = c.args.out.now in
    let loaded = c.in-Ok.loaded in let is = c.in-Ok-link_file.ensures.ok in
    let old = g.H.World.meaning c.args.host.now in let mid = g.H.World.meaning c.read_inputs.new.host in
    let before = g.H.World.faults c.args.host.now in let between = g.H.World.faults c.read_inputs.new.host in
    readied (task.Link inputs name out) (λ fs. inputs_in fs inputs) refl old mid before between (loaded.plan, loaded.modules) read.read read.all
    c.in-Ok-link_file.ready (ap file_name is.output)
    (λ fs there. subst (λ (o : Output). work_of (task.Link inputs name out) fs (gives o)) (sym is.output)
    (link-gives inputs loaded.plan loaded.modules fs there name out is.«module» is.links is.held)) is.is

pub returns-clause-err : goal.returns-clause-err
returns-clause-err g c =
    let read = c.in-Ok.ensures in let inputs = c.args.inputs.now in let name = c.args.name.now in let out = c.args.out.now in
    let loaded = c.in-Ok.loaded in let work = linked_module (tree_of inputs.marks) name loaded.modules in
    let old = g.H.World.meaning c.args.host.now in let mid = g.H.World.meaning c.read_inputs.new.host in
    let before = g.H.World.faults c.args.host.now in let between = g.H.World.faults c.read_inputs.new.host in
    ended (task.Link inputs name out) (λ fs. inputs_in fs inputs) refl old mid before between (loaded.plan, loaded.modules) read.read read.all
    (with_stops link_fact work) (λ fs is s ends. link-stops inputs loaded.plan loaded.modules fs is name out s ends) c.outcome_of_link.result
    (subst (λ (o : Outcome). EndsAt (with_stops link_fact work) o) (sym c.outcome_of_link.ensures)
    (link-ends work c.in-Err-link_file.refusal c.in-Err-link_file.ensures.refused))
