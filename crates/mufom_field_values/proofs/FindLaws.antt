-- The field of a module that is placed where a plan puts it is the one that is looked for.
use Rattle.std.proofs.Common.{◌≡◌, ℕ, List, [], ◌∷◌, None, sym, ap, subst, ◌∙◌}
use Rattle.mufom_names.specs.Names.{names_of, AreDistinct}
use Rattle.mufom_loads.specs.declared.load.Load.{Load}
use Rattle.mufom_module.specs.declared.module.Parts.{Parts}
use Rattle.mufom_sections.specs.declared.section.Section.{Section}
use Rattle.mufom_plan.specs.declared.plan.Plan.{Plan}
use Rattle.mufom_meaning.specs.Bases.{Bases}
use Rattle.mufom_meaning.specs.Placed.{planned_bases}
use Rattle.mufom_meaning.specs.Steps.{steps_of}
use Rattle.mufom_meaning.specs.Values.{setting}
use Rattle.mufom_image_values.specs.declared.resolutions.Resolution.{Resolution}
use Rattle.mufom_image_values.specs.declared.values.PlacedModule.{PlacedModule}
use Rattle.mufom_image_values.specs.Evaluated.{alone, setting_of, IsPlaced}
use Rattle.mufom_image_values.specs.Resolutions.{resolutions_of}
use Rattle.mufom_image.specs.Placements.{ArePlaced, StandsAt}
use Rattle.mufom_image.specs.Stages.{circular}
use Rattle.mufom_image.proofs.PlannedLaws.{graph-placed, planned-by}
use Rattle.mufom_image.proofs.ReadyLaws.{same-bases}
use Rattle.mufom_field_values.specs.Fields.{field_of, first_field, shown_loads}

module _ (m : Parts) (met : List Resolution) (bases : List ℕ) (placed : PlacedModule) (at : StandsAt m met bases placed)
    (names : AreDistinct (names_of m.names.publics)) where
  pub found-placed : met ≡ resolutions_of m → circular m ≡ None → IsPlaced placed
  found-placed same acyclic = record {
    graph = graph-placed m met bases placed at names same;
    acyclic = subst (λ (x : Parts). circular x ≡ None) (sym at.parts) acyclic;
  }

  pub field-found : (plan : Plan) (sections : List Section) → ArePlaced m plan sections bases → (loads : List Load) → loads ≡ m.loads → (own : Parts)
      → (section address : ℕ)
      → first_field (setting_of placed) section address [] (steps_of (alone placed.graph.parts.now) None (shown_loads loads own.loads))
      ≡ field_of m own plan section address
  field-found plan sections there loads same own section address =
      let parts = at.parts in
      ap (λ (b : Bases). first_field (setting (placed.graph.parts.now ∷ []) b) section address []
      (steps_of (alone placed.graph.parts.now) None (shown_loads loads own.loads)))
      (same-bases plan placed (planned-by m met bases placed at names plan sections there))
      ∙ (λ i. first_field (setting (parts i ∷ []) (planned_bases (parts i ∷ []) plan)) section address []
      (steps_of (alone (parts i)) None (shown_loads (same i) own.loads)))
