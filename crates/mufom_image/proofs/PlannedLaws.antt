-- A module that is placed where a plan puts it: what is known of the module is known of it as placed.
use Rattle.std.proofs.Common.{◌≡◌, ℕ, List, [], ◌∷◌, length, take, drop, None, sym, ◌∙◌, ap, subst}
use Rattle.std.specs.Prelude.{option_map}
use Rattle.mufom_names.specs.Names.{names_of, AreDistinct}
use Rattle.mufom_sections.specs.declared.section.Section.{Section}
use Rattle.mufom_module.specs.declared.module.Parts.{Parts}
use Rattle.mufom_plan.specs.declared.plan.Plan.{Plan}
use Rattle.mufom_meaning.specs.declared.located.LocatedParts.{LocatedParts}
use Rattle.mufom_meaning.specs.declared.located.Run.{Run}
use Rattle.mufom_meaning.specs.Bases.{Bases}
use Rattle.mufom_meaning.specs.Facts.{placement}
use Rattle.mufom_meaning.specs.LocateAnswer.{locate_answer}
use Rattle.mufom_meaning.specs.Location.{IsLocation, placed_sections, located_sections}
use Rattle.mufom_meaning.specs.Placed.{base_list, planned_bases}
use Rattle.mufom_meaning.specs.Values.{setting}
use Rattle.mufom_meaning.specs.Walk.{walk_answer}
use Rattle.mufom_image_values.specs.declared.resolutions.Resolution.{Resolution}
use Rattle.mufom_image_values.specs.declared.values.PlacedModule.{PlacedModule}
use Rattle.mufom_image_values.specs.Evaluated.{setting_of, IsGraph, IsPlaced, AreValues}
use Rattle.mufom_image_values.specs.Resolutions.{resolutions_of}
use Rattle.mufom_image_entries.specs.declared.valued.ValuedModule.{ValuedModule}
use Rattle.mufom_image_entries.specs.Valued.{parts_of, IsValued}
use Rattle.mufom_refusals.specs.declared.locate.LocateRefusal.{LocateRefusal}
use Rattle.mufom_image.specs.Placements.{placing_refusal, ArePlaced, StandsAt}
use Rattle.mufom_image.specs.Refusals.{IsMet}
use Rattle.mufom_image.specs.Entries.{HasEntries, AreRuns}
use Rattle.mufom_image.specs.Stages.{unplaced, circular, IsJudged, IsPlannedBy, MayBeWalked}
use Rattle.mufom_image.proofs.MetLaws.{walk-answered, nothing-answered}
use Rattle.mufom_image.proofs.ReadyLaws.{same-bases, may-be-walked}
use Rattle.mufom_image.proofs.EntryLaws.{entries-located}

-- what is placed at bases is placed at the same bases
pub placed-there : (m : Parts) (plan : Plan) (sections : List Section) (bases all : List ℕ) → ArePlaced m plan sections bases → all ≡ bases
    → ArePlaced m plan sections all
placed-there m plan sections bases all there same = subst (ArePlaced m plan sections) (sym same) there

module _ (m : Parts) (met : List Resolution) (bases : List ℕ) (placed : PlacedModule) (at : StandsAt m met bases placed)
    (names : AreDistinct (names_of m.names.publics)) where
  own-names : AreDistinct (names_of placed.graph.parts.now.names.publics)
  own-names = subst (λ (x : Parts). AreDistinct (names_of x.names.publics)) (sym at.parts) names

  -- its graph is that of the module
  pub graph-placed : met ≡ resolutions_of m → IsGraph placed.graph
  graph-placed same = record {
    valid = at.valid;
    distinct = own-names;
    resolutions = at.resolutions ∙ same ∙ ap resolutions_of (sym at.parts);
  }

  module _ (plan : Plan) (sections : List Section) (there : ArePlaced m plan sections bases) where
    -- the sections and commons can be placed
    pub nothing-unplaced : unplaced m plan ≡ None
    nothing-unplaced = ap (option_map placement) there.none

    pub planned-by : IsPlannedBy plan placed
    planned-by = let back = sym at.parts in record {
      sections = at.bases ∙ ap (take (length m.sections)) there.bases ∙ (λ i. take (length (back i).sections) (base_list (back i ∷ []) plan));
      commons = at.commons ∙ ap (drop (length m.sections)) there.bases ∙ (λ i. drop (length (back i).sections) (base_list (back i ∷ []) plan));
    }

    -- the fact found on its walk is the one found on the walk of the module where the plan puts it
    walk-same : walk_answer (placed.graph.parts.now ∷ []) (setting_of placed) ≡ walk_answer (m ∷ []) (setting (m ∷ []) (planned_bases (m ∷ []) plan))
    walk-same =
        ap (λ (b : Bases). walk_answer (placed.graph.parts.now ∷ []) (setting (placed.graph.parts.now ∷ []) b)) (same-bases plan placed planned-by)
        ∙ (let own = at.parts in λ i. walk_answer (own i ∷ []) (setting (own i ∷ []) (planned_bases (own i ∷ []) plan)))

    module _ (clear : IsJudged m plan) where
      pub placed-acyclic : met ≡ resolutions_of m → IsPlaced placed
      placed-acyclic same = record {
        graph = graph-placed same;
        acyclic = subst (λ (x : Parts). circular x ≡ None) (sym at.parts) clear.acyclic;
      }

      pub walk-met : (refusal : LocateRefusal) → IsMet (walk_answer (placed.graph.parts.now ∷ []) (setting_of placed)) refusal
          → IsMet (locate_answer (m ∷ []) plan) refusal
      walk-met refusal h = walk-answered m plan nothing-unplaced clear refusal (subst (λ o. IsMet o refusal) walk-same h)

-- its publics have values
pub valued-where-placed : (m : Parts) (met : List Resolution) (bases : List ℕ) (valued : ValuedModule) → StandsAt m met bases valued.placed.now
    → AreDistinct (names_of m.names.publics) → (plan : Plan) (sections : List Section) → ArePlaced m plan sections bases → IsJudged m plan
    → met ≡ resolutions_of m → AreValues valued.placed.now valued.values.now → IsValued valued
valued-where-placed m met bases valued at names plan sections there clear same values = record {
  placed = placed-acyclic m met bases valued.placed.now at names plan sections there clear same;
  values = values;
}

-- its loads may be walked over
pub walked-where-placed : (m : Parts) (met : List Resolution) (bases : List ℕ) (valued : ValuedModule) → StandsAt m met bases valued.placed.now
    → AreDistinct (names_of m.names.publics) → (plan : Plan) (sections : List Section) → ArePlaced m plan sections bases → IsJudged m plan
    → IsValued valued → MayBeWalked valued
walked-where-placed m met bases valued at names plan sections there clear v =
    let back = sym at.parts in
    may-be-walked plan valued v (own-names m met bases valued.placed.now at names)
    (subst (λ (x : Parts). placing_refusal x plan ≡ None) back there.none)
    (subst (λ (x : Parts). IsJudged x plan) back clear)
    (planned-by m met bases valued.placed.now at names plan sections there)

-- its parts with their values are the location
pub located-where-placed : (m : Parts) (met : List Resolution) (bases : List ℕ) (valued : ValuedModule) (own : List Section) (runs : List Run)
    (r : LocatedParts)
    → HasEntries valued own runs r → StandsAt m met bases valued.placed.now → AreDistinct (names_of m.names.publics)
    → (plan : Plan) (sections : List Section) → ArePlaced m plan sections bases → own ≡ placed_sections bases sections → IsJudged m plan
    → walk_answer (parts_of valued ∷ []) (setting_of valued.placed.now) ≡ None → AreRuns valued runs → IsLocation (m ∷ []) plan r
located-where-placed m met bases valued own runs r entries at names plan sections there same clear passed rows =
    let back = sym at.parts in
    let placed = valued.placed.now in
    let none : walk_answer (m ∷ []) (setting (m ∷ []) (planned_bases (m ∷ []) plan)) ≡ None
    = sym (walk-same m met bases placed at names plan sections there) ∙ passed in
    let locates = nothing-answered m plan (nothing-unplaced m met bases placed at names plan sections there) clear none in
    let all : own ≡ located_sections (parts_of valued ∷ []) plan
    = same ∙ (let at_bases = there.bases in let all_sections = there.sections in λ i. placed_sections (at_bases i) (all_sections i))
    ∙ ap (λ (x : Parts). located_sections (x ∷ []) plan) back in
    subst (λ (x : Parts). IsLocation (x ∷ []) plan r) at.parts
    (entries-located plan valued runs r (planned-by m met bases placed at names plan sections there) at.valid
    (own-names m met bases placed at names)
    (subst (λ (x : Parts). locate_answer (x ∷ []) plan ≡ None) back locates) rows
    (subst (λ (sections : List Section). HasEntries valued sections runs r) all entries))
