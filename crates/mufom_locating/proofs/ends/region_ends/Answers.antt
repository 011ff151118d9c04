use Rattle.std.proofs.Common.{◌≡◌, ◌∙◌, [], ◌∷◌, length, take, drop, false, refl, sym, ap, subst}
use Rattle.std.specs.Prelude.{All, filter, slice_index_or}
use Rattle.std.proofs.lemmas.List.Elements.{All-filter}
use Rattle.mufom_module.specs.declared.module.Parts.{Parts}
use Rattle.mufom_place.specs.declared.placing.Placing.{Placing}
use Rattle.mufom_place.specs.Bases.{placings}
use Rattle.mufom_place.specs.Packing.{IsLow}
use Rattle.mufom_meaning.specs.Placed.{extended_sections}
use Rattle.mufom_planned.specs.Layout.{has_bytes, layout}
use Rattle.mufom_locating.specs.Ends.{ArePlain}
use Rattle.mufom_locating.proofs.EndLaws.{layout-ends, plain-placings}
use Rattle.mufom_locating.proofs.LayoutLaws.{commons-part, sections-part}
use Rattle.mufom_locating.proofs.ends.region_ends.Goals as goal

pub ends_with_copies-requires-clause-low_loaded : goal.ends_with_copies-requires-clause-low_loaded
ends_with_copies-requires-clause-low_loaded c =
    let has = λ (p : Placing). slice_index_or c.deref.result.now p.section false in
    let low = subst (All IsLow) (sym c.as_slice-2.ensures) c.in_ok-placings.ensures.low in
    subst (All IsLow) (sym (c.as_slice-6.ensures ∙ c.in_ok-loaded.ensures)) (All-filter has IsLow c.as_slice-2.result.now low)

pub ends_with_copies-requires-clause-plain : goal.ends_with_copies-requires-clause-plain
ends_with_copies-requires-clause-plain c =
    let m = c.args.module.now in
    let plan = c.args.plan.now in
    let l = layout (m ∷ []) plan in
    let own = c.len.ensures ∙ ap (λ (p : Parts). length p.sections) c.parts.ensures.same in
    let plain = c.as_slice.ensures ∙ c.in_ok-plain.ensures in
    let sections : c.split_at.result.0.now ≡ l.sections = c.split_at.ensures.front ∙ (λ i. take (own i) (plain i))
    ∙ sections-part m plan (extended_sections (m ∷ []) plan) refl in
    let commons : c.split_at.result.1.now ≡ l.commons = c.split_at.ensures.back ∙ (λ i. drop (own i) (plain i))
    ∙ commons-part m plan (extended_sections (m ∷ []) plan) refl in
    let given = c.as_slice-5.ensures ∙ c.in_ok-placings.ensures.given ∙ (λ i. placings plan (sections i) (commons i)) in
    let all = c.as_slice-4.ensures ∙ c.in_ok-plain.ensures in
    let may = c.modules_may_be_placed.ensures m plan c.parts.ensures.valid in
    subst (λ ps. ArePlain c.as_slice-4.result.now ps) (sym given)
    (subst (λ ss. ArePlain ss (placings plan l.sections l.commons)) (sym all) (plain-placings m plan may))

pub returns : goal.returns
returns c =
    let m = c.args.module.now in
    let plan = c.args.plan.now in
    let l = layout (m ∷ []) plan in
    let own = c.len.ensures ∙ ap (λ (p : Parts). length p.sections) c.parts.ensures.same in
    let plain = c.as_slice.ensures ∙ c.in_ok-plain.ensures in
    let sections : c.split_at.result.0.now ≡ l.sections = c.split_at.ensures.front ∙ (λ i. take (own i) (plain i))
    ∙ sections-part m plan (extended_sections (m ∷ []) plan) refl in
    let commons : c.split_at.result.1.now ≡ l.commons = c.split_at.ensures.back ∙ (λ i. drop (own i) (plain i))
    ∙ commons-part m plan (extended_sections (m ∷ []) plan) refl in
    let given = c.in_ok-placings.ensures.given ∙ (λ i. placings plan (sections i) (commons i)) in
    let marks = c.in_ok-marks.ensures in
    let marked = c.deref.ensures.value in
    let first = c.as_slice-2.ensures ∙ given in
    let loaded = c.as_slice-6.ensures ∙ c.in_ok-loaded.ensures
    ∙ (λ i. filter (λ (p : Placing). (ap (λ ms. slice_index_or ms p.section false) marked ∙ marks p.section) i) (first i)) in
    layout-ends m plan c.as_slice-3.result.now c.as_slice-4.result.now c.as_slice-5.result.now c.as_slice-6.result.now c.in_ok-ends.ends.items
    c.as_slice-3.ensures (c.as_slice-4.ensures ∙ c.in_ok-plain.ensures) (c.as_slice-5.ensures ∙ given) loaded c.in_ok-ends.ensures
