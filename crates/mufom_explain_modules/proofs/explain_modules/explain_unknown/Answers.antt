use Rattle.std.proofs.Common.{List, ap, map, ℕ, ◌∙◌}
use Rattle.std.specs.String.{string_bytes}
use Rattle.mufom_explain_modules.proofs.ToldEnds.{unknown-over}
use Rattle.mufom_explain_text.proofs.ToldLaws.{told-printed}
use Rattle.mufom_explain.specs.Details.{name_details}
use Rattle.mufom_explain.specs.Explained.{name_text}
use Rattle.mufom_explain.specs.Flat.{flat_of}
use Rattle.mufom_outcome.specs.declared.outcome.Refusal.TheVariants as refusal
use Rattle.mufom_outcome.specs.declared.outcome.Outcome.TheVariants as outcome
use Rattle.mufom_task.specs.declared.task.Task.TheVariants as task
use Rattle.mufom_origins.specs.Words.{all_files}
use Rattle.mufom_explain_modules.proofs.explain_modules.explain_unknown.Goals as goal

pub returns-in-Ok : goal.returns-in-Ok
returns-in-Ok g c = λ files inputs plan ms keep made is.
    let words : List (List ℕ) = map (λ word. string_bytes word) c.args.words.now in
    let old = g.H.World.meaning c.args.host.now in let new = g.H.World.meaning c.print_explanation.new.host in
    let before = g.H.World.faults c.args.host.now in let now = g.H.World.faults c.print_explanation.new.host in
    let names = all_files c.args.names.now in let name = c.args.name.now in
    let flat = flat_of c.args.flat.now in let text : List ℕ = name_text c.in-Ok.details in
    told-printed words (task.Locate inputs keep made) files old new before now c.print_explanation.ensures.only (outcome.Refused (refusal.Keep name)) text
    c.print_explanation.result c.print_explanation.ensures.answer
    (unknown-over files inputs names keep made plan ms flat name text is (c.in-Ok.ensures ∙ ap (name_details names flat) c.as_slice.ensures))
