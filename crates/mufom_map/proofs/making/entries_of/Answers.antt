use Rattle.std.proofs.Common.{◌≡◌, ◌-◌, ◌∷◌, [], length, map, refl, sym, ap, subst, ◌∙◌, arith}
use Rattle.std.specs.List.{enumerate_from}
use Rattle.mufom_module.specs.declared.module.Parts.{Parts}
use Rattle.mufom_place.specs.Bases.{numbered, site_by}
use Rattle.mufom_meaning.specs.declared.located.LocatedParts.{LocatedParts}
use Rattle.mufom_located.specs.Located.{IsLocated}
use Rattle.mufom_planned.specs.Layout.{layout_placings, whole_list}
use Rattle.mufom_text.proofs.FitLaws.{located-fits}
use Rattle.mufom_map.specs.Mapped.{first_copy, mapped_public, planned_layout}
use Rattle.mufom_map.specs.Shown.{shown_sections}
use Rattle.mufom_map.proofs.LocatedLaws.{count, few-located, own-is, publics-located}
use Rattle.mufom_map.proofs.ShownLaws.{shown-is}
use Rattle.mufom_map.proofs.making.entries_of.Goals as goal

pub regions_of-requires-clause-copies : goal.regions_of-requires-clause-copies
regions_of-requires-clause-copies c =
    c.requires.copies ∙ ap (λ (m : Parts). (planned_layout (m ∷ []) c.args.plan.now).copied) (sym c.parts.ensures.same)

pub overflow_sub-result : goal.overflow_sub-result
overflow_sub-result c =
    let parts = count c.args.module.now c.args.plan.now c.args.located.now c.requires.planned in
    let copies = ap length c.requires.copies in
    let all = ap length (c.as_slice-sections.ensures ∙ ap (λ (r : LocatedParts). r.sections) c.parts-parts.ensures.same) in
    omega (arith, parts, copies, all)

pub invariant_of-result : goal.invariant_of-result
invariant_of-result c =
    let r = c.parts-parts.result.now in
    let located = subst IsLocated (sym c.parts-parts.ensures.same) c.parts-parts.ensures.located in
    record {
      units = (located-fits r located).0;
      few_sections = let less = few-located r located in let all = ap length c.as_slice-sections.ensures in omega (arith, less, all);
      few_publics = let less = publics-located r located in let all = ap length c.as_slice.ensures in omega (arith, less, all);
    }

pub returns : goal.returns
returns c =
    let plan = c.args.plan.now in let ms = c.args.module.now ∷ [] in
    let l = planned_layout ms plan in
    let origins = c.args.origins.now in let regions = c.in_ok-section_regions.section_regions.items in
    let same = c.parts-parts.ensures.same in
    let are = c.in_ok-section_regions.ensures ∙ ap (λ (m : Parts). let own = planned_layout (m ∷ []) plan in
    map (λ s. (site_by (layout_placings own) s).region) (numbered (whole_list own))) c.parts.ensures.same in
    let located = c.as_slice-sections.ensures ∙ ap (λ (r : LocatedParts). r.sections) same in
    let publics = c.as_slice.ensures ∙ ap (λ (r : LocatedParts). r.publics) same in
    let parts = count c.args.module.now plan c.args.located.now c.requires.planned in
    let copies = ap length c.requires.copies in let all = ap length located in let own = ap length (own-is c.args.module.now plan) in
    let first : length c.as_slice-sections.result.now - length c.args.copies.now ≡ first_copy l = omega (arith, parts, copies, all, own) in
    record {
      maus = ap (λ (r : LocatedParts). r.maus) same;
      origins_are = refl;
      located = located;
      publics_are = publics;
      sections = (λ i. shown_sections origins regions (first i) ((located ∙ c.requires.planned.located.sections) i)) ∙ shown-is origins l regions are;
      publics = ap (λ all. map (mapped_public origins) (enumerate_from 0 all)) publics;
    }
