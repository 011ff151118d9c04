use Rattle.std.proofs.Common.{List, arith, map, refl, ℕ}
use Rattle.std.specs.String.{string_bytes}
use Rattle.mufom_host.specs.World.{OnlyPrints}
use Rattle.mufom_explain_text.proofs.ExplainReading.{inputs-end, never-written, task-opens, unread-explains, untold-explains}
use Rattle.mufom_explain_text.proofs.ToldLaws.{told-all}
use Rattle.mufom_prepare.proofs.WorkLaws.{linking-begins, read-from}
use Rattle.mufom_explain_text.specs.Told.{told_text}
use Rattle.mufom_works.specs.Works.{linked_file}
use Rattle.mufom_task.specs.InputsRead.{InputsStop, inputs_in}
use Rattle.mufom_task.specs.Calls.{call_of}
use Rattle.mufom_task.specs.declared.task.Task.TheVariants as task
use Rattle.mufom_origins.specs.Words.{all_files}
use Rattle.mufom_explain_modules.proofs.explain_modules.explain_link.Goals as goal

pub returns-in-Ok : goal.returns-in-Ok
returns-in-Ok g c =
    let words : List (List ℕ) = map (λ word. string_bytes word) c.args.words.now in
    let old = g.H.World.meaning c.args.host.now in let before = g.H.World.faults c.args.host.now in
    let mid = g.H.World.meaning c.read_or_unread.new.host in let between = g.H.World.faults c.read_or_unread.new.host in
    let new = g.H.World.meaning c.explain_linked.new.host in let now = g.H.World.faults c.explain_linked.new.host in
    let read = c.in-Ok.ensures in let inputs = c.args.inputs.now in let name = c.args.name.now in let out = c.args.out.now in
    told-all words (task.Link inputs name out) c.requires.asks old mid new before between now read.only read.all c.explain_linked.result
    (c.explain_linked.ensures old.files
    (read-from old.files inputs (all_files c.in-Ok.loaded.files) c.in-Ok.loaded.plan c.in-Ok.loaded.modules read.read read.files))

pub print_explanation-requires : goal.print_explanation-requires
print_explanation-requires g c =
    never-written (InputsStop c.args.inputs.now (call_of g.H.World.meaning g.H.World.faults c.args.host.now c.read_or_unread.new.host)) (λ never. never)
    c.in-Err.unread.outcome c.in-Err.ensures.stops

pub returns-in-Ok-unread_details : goal.returns-in-Ok-unread_details
returns-in-Ok-unread_details g c =
    let words : List (List ℕ) = map (λ word. string_bytes word) c.args.words.now in
    let old = g.H.World.meaning c.args.host.now in let before = g.H.World.faults c.args.host.now in
    let mid = g.H.World.meaning c.read_or_unread.new.host in let between = g.H.World.faults c.read_or_unread.new.host in
    let new = g.H.World.meaning c.print_explanation.new.host in let now = g.H.World.faults c.print_explanation.new.host in
    let read = c.in-Err.ensures in let inputs = c.args.inputs.now in let name = c.args.name.now in let out = c.args.out.now in
    let put = c.print_explanation.ensures in let some = c.requires.sound.some in let within = c.requires.sound.tree.within in
    unread-explains words (task.Link inputs name out) c.requires.asks old mid before between read.only new now put.only (λ fs. inputs_in fs inputs)
    (inputs-end inputs) (linking-begins (λ ms plan flat. linked_file name out flat) inputs) refl (omega (arith, some, within)) c.in-Err.unread.outcome
    read.stops read.opened read.named c.cause-told.result c.in-Err.unread.plan.items (told_text c.in-Ok-unread_details.details) read.text
    c.in-Ok-unread_details.ensures c.print_explanation.result put.answer put.told

pub returns-in_default : goal.returns-in_default
returns-in_default g c =
    let words : List (List ℕ) = map (λ word. string_bytes word) c.args.words.now in
    let old = g.H.World.meaning c.args.host.now in let before = g.H.World.faults c.args.host.now in
    let mid = g.H.World.meaning c.read_or_unread.new.host in let between = g.H.World.faults c.read_or_unread.new.host in
    let read = c.in-Err.ensures in let inputs = c.args.inputs.now in let name = c.args.name.now in let out = c.args.out.now in
    let nothing : OnlyPrints mid mid between between = (refl, refl, omega arith) in
    untold-explains words old mid before between read.only mid between nothing c.in-Err.unread.outcome
    (task-opens words (task.Link inputs name out) c.requires.asks old mid before between read.only mid between nothing c.in-Err.unread.outcome read.opened)
    refl
