use Rattle.std.proofs.Common.{List, [], Option, map, subst, ℕ}
use Rattle.std.specs.String.{string_bytes}
use Rattle.mufom_explain_modules.proofs.ToldEnds.{product-over, unmade-over, unmade-unwritten}
use Rattle.mufom_explain_text.proofs.ToldLaws.{told-either, told-printed}
use Rattle.mufom_works.specs.ExplainText.{explain_text}
use Rattle.mufom_works.specs.InputLines.{untried_lines}
use Rattle.mufom_works.specs.Making.{IsPrinted}
use Rattle.mufom_task.proofs.InputLaws.{call_between}
use Rattle.mufom_task.specs.Tasks.{file_of}
use Rattle.mufom_outcome.specs.declared.outcome.Outcome.TheVariants as outcome
use Rattle.mufom_task.specs.declared.task.Task.TheVariants as task
use Rattle.mufom_origins.specs.Words.{all_files}
use Rattle.mufom_explain_modules.proofs.explain_modules.explain_product.Goals as goal

pub returns-in-Ok : goal.returns-in-Ok
returns-in-Ok g c = λ files inputs keep plan ms read are.
    let names = all_files c.args.names in
    let words : List (List ℕ) = map (λ word. string_bytes word) c.args.words.now in
    let old = g.H.World.meaning c.args.host.now in let new = g.H.World.meaning c.print_done.new.host in
    let before = g.H.World.faults c.args.host.now in let now = g.H.World.faults c.print_done.new.host in
    let made = c.args.product.now in
    told-printed words (task.Locate inputs keep made) files old new before now c.print_done.ensures.only outcome.Done (untried_lines (file_of made))
    c.print_done.result
    (subst (λ (o : Option (List ℕ)). IsPrinted (explain_text words outcome.Done (untried_lines o)) (call_between old new before now) c.print_done.result)
    c.file_of-out.ensures c.print_done.ensures.answer)
    (product-over files inputs names keep made plan ms read c.args.location are c.in-Ok.field-0 c.in-Ok.ensures.ok)

pub print_explanation-requires : goal.print_explanation-requires
print_explanation-requires g c =
    unmade-unwritten c.args.product.now (all_files c.args.names) c.args.location c.in-Err.answer c.in-Err.ensures.stops

pub returns : goal.returns
returns g c = λ files inputs keep plan ms read are.
    let names = all_files c.args.names in
    let words : List (List ℕ) = map (λ word. string_bytes word) c.args.words.now in
    let old = g.H.World.meaning c.args.host.now in let new = g.H.World.meaning c.print_explanation.new.host in
    let before = g.H.World.faults c.args.host.now in let now = g.H.World.faults c.print_explanation.new.host in
    let made = c.args.product.now in
    told-either words (task.Locate inputs keep made) files old new before now c.print_explanation.ensures.only c.in-Err.answer []
    c.print_explanation.result c.print_explanation.ensures.answer
    (unmade-over files inputs names keep made plan ms read c.args.location are c.in-Err.answer c.in-Err.ensures.stops) c.print_explanation.ensures.told
