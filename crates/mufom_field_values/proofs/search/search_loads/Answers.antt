use Rattle.std.proofs.Common.{◌∙◌, [], None, Option, ℕ, sym, ap}
use Rattle.mufom_meaning.specs.Steps.{steps_of}
use Rattle.mufom_meaning.specs.Values.{Setting}
use Rattle.mufom_image_values.specs.Evaluated.{alone, setting_of}
use Rattle.mufom_field_values.specs.Fields.{shown_loads}
use Rattle.mufom_field_values.specs.Walk.{found_from}
use Rattle.mufom_field_values.proofs.WalkLaws.{first-found}
use Rattle.mufom_field_values.proofs.search.search_loads.Goals as goal

pub returns : goal.returns
returns c =
    let search = c.args.search.now in
    let s : Setting = setting_of search.placed.now in
    let steps = steps_of (alone search.placed.now.graph.parts.now) None (shown_loads c.args.loads.now c.args.own.now) in
    c.find.ensures ∙ ap (λ (o : Option ℕ). found_from s search.section search.address o steps) c.first_counter.ensures
    ∙ sym (first-found s search.section search.address [] steps)
