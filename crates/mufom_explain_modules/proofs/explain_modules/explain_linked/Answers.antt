use Rattle.std.proofs.Common.{List, Some, map, refl, subst, sym, ℕ, ◌∙◌}
use Rattle.std.specs.String.{string_bytes}
use Rattle.mufom_explain_modules.proofs.ToldEnds.{link-over}
use Rattle.mufom_explain_text.proofs.ToldLaws.{told-printed}
use Rattle.mufom_works.specs.InputLines.{untried_lines}
use Rattle.mufom_prepare.specs.Prepared.{AreReadFrom, MakesLink}
use Rattle.mufom_groups.specs.Groups.{StopsWork}
use Rattle.mufom_groups.specs.Linked.{linked_module}
use Rattle.mufom_module.specs.declared.module.Parts.{Parts}
use Rattle.mufom_origins.specs.Words.{all_files}
use Rattle.mufom_words.specs.Tree.{tree_of}
use Rattle.mufom_outcome.specs.declared.outcome.Outcome.TheVariants as outcome
use Rattle.mufom_task.specs.declared.task.Task.TheVariants as task
use Rattle.mufom_explain_modules.proofs.explain_modules.explain_linked.Goals as goal

pub returns-in-Ok-link_file : goal.returns-in-Ok-link_file
returns-in-Ok-link_file g c = λ files read.
    let words : List (List ℕ) = map (λ word. string_bytes word) c.args.words.now in
    let old = g.H.World.meaning c.args.host.now in let new = g.H.World.meaning c.print_done.new.host in
    let before = g.H.World.faults c.args.host.now in let now = g.H.World.faults c.print_done.new.host in
    let inputs = c.args.inputs.now in let name = c.args.name.now in let out = c.args.out.now in let loaded = c.args.loaded.now in
    let tree = tree_of inputs.marks in
    told-printed words (task.Link inputs name out) files old new before now c.print_done.ensures.only outcome.Done (untried_lines (Some out))
    c.print_done.result c.print_done.ensures.answer
    (link-over files inputs name out (all_files loaded.files) loaded.plan loaded.modules read c.in-Ok-link_file.field-0
    (subst (λ (l : List Parts). MakesLink tree name out l c.in-Ok-link_file.field-0) (c.in-Ok.ensures ∙ c.as_slice-modules.ensures)
    c.in-Ok-link_file.ensures.ok))

pub returns : goal.returns
returns g c = λ files read.
    let inputs = c.args.inputs.now in let name = c.args.name.now in let out = c.args.out.now in let loaded = c.args.loaded.now in
    let tree = tree_of inputs.marks in
    c.explain_unlinked.ensures files loaded.plan (task.Link inputs name out) name
    (subst (λ (l : List Parts). AreReadFrom files inputs (all_files loaded.files) loaded.plan l) (sym c.as_slice-modules.ensures) read) (refl, refl)
    (subst (λ (l : List Parts). StopsWork (linked_module tree name l) c.in-Err.refusal) c.in-Ok.ensures c.in-Err.ensures.refused)
