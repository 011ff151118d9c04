use Rattle.std.proofs.Common.{List, ap, map, ℕ, ◌++◌, ◌∙◌}
use Rattle.std.specs.Prelude.{option_copied}
use Rattle.std.specs.String.{string_bytes}
use Rattle.mufom_explain_modules.proofs.ToldEnds.{shared-over}
use Rattle.mufom_explain_text.proofs.ToldLaws.{told-printed}
use Rattle.mufom_works.specs.HasDetails.{plan_lines}
use Rattle.mufom_explain.specs.Details.{shared_details}
use Rattle.mufom_explain.specs.Explained.{shared_text}
use Rattle.mufom_explain.specs.Flat.{flat_of}
use Rattle.mufom_outcome.specs.declared.outcome.Refusal.TheVariants as refusal
use Rattle.mufom_outcome.specs.declared.outcome.Outcome.TheVariants as outcome
use Rattle.mufom_task.specs.declared.task.Task.TheVariants as task
use Rattle.mufom_origins.specs.Words.{all_files}
use Rattle.mufom_explain_modules.proofs.explain_modules.explain_shared_name.Goals as goal

pub returns-in-Ok : goal.returns-in-Ok
returns-in-Ok g c = λ files ms keep made part origins is met.
    let words : List (List ℕ) = map (λ word. string_bytes word) c.args.words.now in
    let old = g.H.World.meaning c.args.host.now in let new = g.H.World.meaning c.print_explanation.new.host in
    let before = g.H.World.faults c.args.host.now in let now = g.H.World.faults c.print_explanation.new.host in
    let inputs = c.args.inputs.now in let names = all_files c.args.names.now in let plan = c.args.plan.now in let name = c.args.name.now in
    let flat = flat_of c.args.flat.now in
    let text : List ℕ = shared_text c.in-Ok.details ++ plan_lines (option_copied c.as_ref.result) in
    told-printed words (task.Locate inputs keep made) files old new before now c.print_explanation.ensures.only
    (outcome.Refused (refusal.SharedName name)) text c.print_explanation.result c.print_explanation.ensures.answer
    (shared-over files inputs names keep made plan ms flat part origins is c.requires.plan.symbols name met text
    (λ i. (c.in-Ok.ensures ∙ ap (shared_details names flat plan) c.as_slice.ensures) i ++ plan_lines (c.as_ref.ensures.value i)))
