use Rattle.std.proofs.Common.{List, map, subst, sym, ℕ}
use Rattle.std.specs.String.{string_bytes}
use Rattle.mufom_explain_modules.proofs.ToldEnds.{unlinked-over}
use Rattle.mufom_explain_text.proofs.ToldLaws.{told-printed}
use Rattle.mufom_works.specs.HasDetails.{IsRefusedFlat}
use Rattle.mufom_explain.specs.Explained.{link_text}
use Rattle.mufom_explain.specs.Flat.{flat_of}
use Rattle.mufom_explain.specs.declared.modules.FlatModule.{FlatModule}
use Rattle.mufom_outcome.specs.declared.outcome.Refusal.TheVariants as refusal
use Rattle.mufom_outcome.specs.declared.outcome.Outcome.TheVariants as outcome
use Rattle.mufom_origins.specs.Words.{all_files}
use Rattle.mufom_explain_modules.proofs.explain_modules.explain_refused.Goals as goal

pub returns-in-Ok-link_details : goal.returns-in-Ok-link_details
returns-in-Ok-link_details g c = λ files plan task name read links why.
    let words : List (List ℕ) = map (λ word. string_bytes word) c.args.words.now in
    let old = g.H.World.meaning c.args.host.now in let new = g.H.World.meaning c.print_explanation.new.host in
    let before = g.H.World.faults c.args.host.now in let now = g.H.World.faults c.print_explanation.new.host in
    let inputs = c.args.inputs.now in let names = all_files c.args.names.now in let ms = c.args.modules.now in let refused = c.args.refusal.now in
    let flat = flat_of c.deref.result.now in let text : List ℕ = link_text c.in-Ok-link_details.details in
    told-printed words task files old new before now c.print_explanation.ensures.only (outcome.Refused (refusal.Link refused)) text
    c.print_explanation.result c.print_explanation.ensures.answer
    (unlinked-over files task inputs name links names plan ms read flat text refused c.requires.memory why
    (λ f ends. subst (λ (l : List FlatModule). IsRefusedFlat inputs ms f (flat_of l)) (sym c.deref.ensures.value) (c.in-Ok.ensures.list f ends))
    c.in-Ok-link_details.ensures)
