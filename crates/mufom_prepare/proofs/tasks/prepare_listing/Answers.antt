use Rattle.std.proofs.Common.{List, inl, refl, subst, ℕ}
use Rattle.mufom_prepare.proofs.PrepareLaws.{ended, readied, unread}
use Rattle.mufom_works.proofs.TextLaws.{text-gives, text-stops}
use Rattle.mufom_works.specs.WorkEnds.{EndsAt}
use Rattle.mufom_works.specs.Works.{parts_of_listing}
use Rattle.mufom_groups.specs.Work.{gives}
use Rattle.mufom_task.specs.Reading.{text_in}
use Rattle.mufom_task.specs.declared.task.Task.TheVariants as task
use Rattle.mufom_prepare.specs.declared.ready.Ready.TheVariants as ready
use Rattle.mufom_prepare.proofs.tasks.prepare_listing.Goals as goal

pub returns-in-Err-clause-err : goal.returns-in-Err-clause-err
returns-in-Err-clause-err g c =
    let read = c.in-Err.ensures in let inputs = c.args.inputs.now in let out = c.args.out.now in
    let old = g.H.World.meaning c.args.host.now in let mid = g.H.World.meaning c.read_text.new.host in
    let before = g.H.World.faults c.args.host.now in let between = g.H.World.faults c.read_text.new.host in
    unread (task.Build inputs out) (λ fs. text_in fs inputs.files) refl old mid before between
    (λ fs s ends. inl ends) c.in-Err.stop read.stops read.opened read.named

pub returns-in-Ok-built_from-clause-ok : goal.returns-in-Ok-built_from-clause-ok
returns-in-Ok-built_from-clause-ok g c =
    let read = c.in-Ok.ensures in let inputs = c.args.inputs.now in let out = c.args.out.now in let «module» = c.in-Ok-built_from.module in
    let bytes : List ℕ = c.in-Ok.text.items in
    let old = g.H.World.meaning c.args.host.now in let mid = g.H.World.meaning c.read_text.new.host in
    let before = g.H.World.faults c.args.host.now in let between = g.H.World.faults c.read_text.new.host in
    readied (task.Build inputs out) (λ fs. text_in fs inputs.files) refl old mid before between bytes read.read read.all
    (ready.File c.args.out «module») refl
    (λ fs is. text-gives parts_of_listing out inputs bytes fs is «module»
    (subst (λ (text : List ℕ). parts_of_listing text (gives «module»)) c.as_slice.ensures.value c.in-Ok-built_from.ensures.ok)
    (record { valid = c.a_module_is_valid.ensures.valid; made = c.a_module_is_valid.ensures.made })) tt

pub returns-clause-err : goal.returns-clause-err
returns-clause-err g c =
    let read = c.in-Ok.ensures in let inputs = c.args.inputs.now in let out = c.args.out.now in
    let bytes : List ℕ = c.in-Ok.text.items in
    let old = g.H.World.meaning c.args.host.now in let mid = g.H.World.meaning c.read_text.new.host in
    let before = g.H.World.faults c.args.host.now in let between = g.H.World.faults c.read_text.new.host in
    ended (task.Build inputs out) (λ fs. text_in fs inputs.files) refl old mid before between bytes read.read read.all
    (parts_of_listing bytes) (λ fs is s ends. text-stops parts_of_listing out inputs bytes fs is s ends) c.in-Err-built_from.stop
    (subst (λ (text : List ℕ). EndsAt (parts_of_listing text) c.in-Err-built_from.stop) c.as_slice.ensures.value c.in-Err-built_from.ensures.stops)
