use Rattle.std.proofs.Common.{List, ap, map, subst, ℕ, ◌≡◌}
use Rattle.std.specs.String.{string_bytes}
use Rattle.mufom_explain_modules.proofs.ToldEnds.{obstacle-over}
use Rattle.mufom_explain_text.proofs.ToldLaws.{told-printed}
use Rattle.mufom_works.specs.ExplainText.{explain_text}
use Rattle.mufom_works.specs.Making.{IsPrinted}
use Rattle.mufom_explain.specs.Explained.{locate_text}
use Rattle.mufom_explain.specs.Flat.{flat_of}
use Rattle.mufom_module.specs.declared.module.Parts.{Parts}
use Rattle.mufom_task.proofs.InputLaws.{call_between}
use Rattle.mufom_outcome.specs.declared.outcome.Refusal.TheVariants as refusal
use Rattle.mufom_outcome.specs.declared.outcome.Outcome.TheVariants as outcome
use Rattle.mufom_task.specs.declared.task.Task.TheVariants as task
use Rattle.mufom_origins.specs.Words.{all_files}
use Rattle.mufom_explain_modules.proofs.explain_modules.explain_fact.Goals as goal

pub returns-in-Ok : goal.returns-in-Ok
returns-in-Ok g c = λ files inputs ms keep made is is_module met.
    let words : List (List ℕ) = map (λ word. string_bytes word) c.args.words.now in
    let old = g.H.World.meaning c.args.host.now in let new = g.H.World.meaning c.print_explanation.new.host in
    let before = g.H.World.faults c.args.host.now in let now = g.H.World.faults c.print_explanation.new.host in
    let names = all_files c.args.names.now in let plan = c.args.plan.now in let «module» = c.args.module.now in
    let part = c.args.part.now.«module» in let origins = c.args.part.now.origins in
    let refused = c.args.refusal.now in let flat = flat_of c.args.flat.now in let text : List ℕ = locate_text c.in-Ok.details in
    let units : c.parts.result.now.maus ≡ «module».maus = ap (λ (m : Parts). m.maus) c.parts.ensures.same in
    told-printed words (task.Locate inputs keep made) files old new before now c.print_explanation.ensures.only
    (outcome.Refused (refusal.Locate refused «module».maus)) text c.print_explanation.result
    (subst (λ (n : ℕ). IsPrinted (explain_text words (outcome.Refused (refusal.Locate refused n)) text) (call_between old new before now)
    c.print_explanation.result) units c.print_explanation.ensures.answer)
    (obstacle-over files inputs names keep made plan ms flat part origins is c.requires.plan.symbols «module» is_module refused c.requires.memory met text
    c.in-Ok.ensures)
