use Rattle.std.proofs.Common.{◌≡◌, ◌∙◌, List, [], ◌∷◌, None, refl, ap}
use Rattle.mufom_loads.specs.declared.load.Load.{Load}
use Rattle.mufom_module.specs.declared.module.Parts.{Parts}
use Rattle.mufom_meaning.specs.Placed.{extended_sections}
use Rattle.mufom_image.specs.Placements.{ArePlaced}
use Rattle.mufom_image.proofs.PlannedLaws.{graph-placed}
use Rattle.mufom_image.proofs.ReadyLaws.{placed-count}
use Rattle.mufom_image_values.specs.Evaluated.{alone, setting_of}
use Rattle.mufom_meaning.specs.Steps.{steps_of}
use Rattle.mufom_field_values.specs.Fields.{first_field, shown_loads}
use Rattle.mufom_field_values.proofs.FindLaws.{field-found, found-placed}
use Rattle.mufom_field_values.proofs.search.find_field.Goals as goal

pub placed_module-placed-requires : goal.placed_module-placed-requires
placed_module-placed-requires c =
    let m = c.args.module.now in let plan = c.args.plan.now in
    let there : ArePlaced m plan (extended_sections (m ∷ []) plan) c.as_slice.result.now
    = record { none = c.requires.placed; sections = refl; bases = c.as_slice.ensures ∙ c.in_ok-bases.ensures } in
    placed-count m plan (extended_sections (m ∷ []) plan) c.as_slice.result.now there

pub components_of-requires : goal.components_of-requires
components_of-requires c = graph-placed _ _ _ _ c.placed_module-placed.ensures c.requires.names c.requires.met

pub public_values-requires : goal.public_values-requires
public_values-requires c = found-placed _ _ _ _ c.placed_module-placed.ensures c.requires.names c.requires.met c.requires.acyclic

pub search_loads-requires-clause-placed : goal.search_loads-requires-clause-placed
search_loads-requires-clause-placed c = found-placed _ _ _ _ c.placed_module-placed.ensures c.requires.names c.requires.met c.requires.acyclic

pub returns : goal.returns
returns c =
    let m = c.args.module.now in let plan = c.args.plan.now in
    let there : ArePlaced m plan (extended_sections (m ∷ []) plan) c.as_slice.result.now
    = record { none = c.requires.placed; sections = refl; bases = c.as_slice.ensures ∙ c.in_ok-bases.ensures } in
    let loads : c.as_slice-loads.result.now ≡ m.loads = c.as_slice-loads.ensures ∙ ap (λ (x : Parts). x.loads) c.parts.ensures.same in
    let own : c.as_slice-3.result.now ≡ c.args.own.now.loads = c.as_slice-3.ensures ∙ ap (λ (x : Parts). x.loads) c.parts-2.ensures.same in
    c.search_loads.ensures
    ∙ ap (λ (o : List Load). first_field (setting_of c.placed_module-placed.result) c.args.section c.args.address []
    (steps_of (alone c.placed_module-placed.result.graph.parts.now) None (shown_loads c.as_slice-loads.result.now o))) own
    ∙ field-found _ _ _ _ c.placed_module-placed.ensures c.requires.names plan (extended_sections (m ∷ []) plan) there c.as_slice-loads.result.now loads c.args.own.now
    c.args.section c.args.address
