use Rattle.std.proofs.Common.{◌≡◌, ◌∙◌, ◌+◌, ◌++◌, ℕ, List, [], ◌∷◌, Option, None, length, drop, sym, ap, subst, length-append}
use Rattle.std.specs.Prelude.{option_map}
use Rattle.std.proofs.lemmas.Result.{err_from_is_err_and}
use Rattle.mufom_meaning.specs.AddressMap.{AreRunsOf, run_cells}
use Rattle.mufom_meaning.specs.Facts.{placement}
use Rattle.mufom_meaning.specs.Location.{IsLocation}
use Rattle.mufom_image_bytes.specs.Images.{AreLow}
use Rattle.mufom_moves.specs.Shifts.{shifted_cells, ShareNoAddress, StayApart}
use Rattle.mufom_planned.specs.Layout.{layout, layout_bases}
use Rattle.mufom_planned.specs.Planned.{layout_fact}
use Rattle.mufom_locating.specs.Copied.{layout_shifts, placed_copies}
use Rattle.mufom_locating.proofs.CopiedLaws.{fitting-met, is-low, no-address-shared, stays-low, stays-apart, located-with}
use Rattle.mufom_locating.proofs.SectionLaws.{copies-within, plain-within}
use Rattle.mufom_locating.proofs.copied.located_at.Goals as goal

pub returns-in_err-located-clause-refused : goal.returns-in_err-located-clause-refused
returns-in_err-located-clause-refused c =
    let m = c.args.module.now in
    let plan = c.args.plan.now in
    let fits : layout_fact (m ∷ []) (layout (m ∷ []) plan) ≡ None = ap (option_map placement) c.requires.placed.places.fits in
    let p = err_from_is_err_and c.from_residual.result c.from_residual.ensures.1 in
    rw (p.1, p.2) (fitting-met (m ∷ []) plan fits c.in_err-located.field-0.0 c.in_err-located.ensures.refused)

pub split_at-requires : goal.split_at-requires
split_at-requires c =
    plain-within (c.args.module.now ∷ []) c.args.plan.now c.as_slice.result.now c.args.placed.now.plain
    (c.as_slice.ensures ∙ c.requires.placed.places.bases_are) c.requires.placed.count

pub with_placed_copies-requires : goal.with_placed_copies-requires
with_placed_copies-requires c =
    ap length c.split_at.ensures.back
    ∙ copies-within (c.args.module.now ∷ []) c.args.plan.now c.as_slice.result.now c.args.placed.now.plain
    (c.as_slice.ensures ∙ c.requires.placed.places.bases_are) c.requires.placed.count
    ∙ sym (ap length (c.as_slice-copies.ensures ∙ c.requires.placed.copies.are))

pub move_runs-requires-clause-low : goal.move_runs-requires-clause-low
move_runs-requires-clause-low c =
    let m = c.args.module.now in
    let plan = c.args.plan.now in
    let l = layout (m ∷ []) plan in
    let valid = c.a_module_is_valid.ensures.valid in
    let may = c.modules_may_be_placed.ensures m plan valid in
    let fits : layout_fact (m ∷ []) l ≡ None = ap (option_map placement) c.requires.placed.places.fits in
    let r = c.into_parts-parts.result in
    let is : IsLocation (m ∷ []) plan r = subst (IsLocation (m ∷ []) plan) (sym c.into_parts-parts.ensures.same) c.in_ok-located.ensures.located in
    let shifts : c.in_ok-shifts.shifts.items ≡ layout_shifts l = c.in_ok-shifts.ensures in
    is-low m plan valid may fits r is

pub move_runs-requires-clause-extents : goal.move_runs-requires-clause-extents
move_runs-requires-clause-extents c =
    let m = c.args.module.now in
    let plan = c.args.plan.now in
    let l = layout (m ∷ []) plan in
    let valid = c.a_module_is_valid.ensures.valid in
    let may = c.modules_may_be_placed.ensures m plan valid in
    let fits : layout_fact (m ∷ []) l ≡ None = ap (option_map placement) c.requires.placed.places.fits in
    let r = c.into_parts-parts.result in
    let is : IsLocation (m ∷ []) plan r = subst (IsLocation (m ∷ []) plan) (sym c.into_parts-parts.ensures.same) c.in_ok-located.ensures.located in
    let shifts : c.in_ok-shifts.shifts.items ≡ layout_shifts l = c.in_ok-shifts.ensures in
    subst ShareNoAddress (sym shifts) (no-address-shared m plan valid may fits r is)

pub move_runs-requires-clause-stay_low : goal.move_runs-requires-clause-stay_low
move_runs-requires-clause-stay_low c =
    let m = c.args.module.now in
    let plan = c.args.plan.now in
    let l = layout (m ∷ []) plan in
    let valid = c.a_module_is_valid.ensures.valid in
    let may = c.modules_may_be_placed.ensures m plan valid in
    let fits : layout_fact (m ∷ []) l ≡ None = ap (option_map placement) c.requires.placed.places.fits in
    let r = c.into_parts-parts.result in
    let is : IsLocation (m ∷ []) plan r = subst (IsLocation (m ∷ []) plan) (sym c.into_parts-parts.ensures.same) c.in_ok-located.ensures.located in
    let shifts : c.in_ok-shifts.shifts.items ≡ layout_shifts l = c.in_ok-shifts.ensures in
    subst (λ s. AreLow (shifted_cells s (run_cells r.runs))) (sym shifts) (stays-low m plan valid may fits r is)

pub move_runs-requires-clause-stay_apart : goal.move_runs-requires-clause-stay_apart
move_runs-requires-clause-stay_apart c =
    let m = c.args.module.now in
    let plan = c.args.plan.now in
    let l = layout (m ∷ []) plan in
    let valid = c.a_module_is_valid.ensures.valid in
    let may = c.modules_may_be_placed.ensures m plan valid in
    let fits : layout_fact (m ∷ []) l ≡ None = ap (option_map placement) c.requires.placed.places.fits in
    let r = c.into_parts-parts.result in
    let is : IsLocation (m ∷ []) plan r = subst (IsLocation (m ∷ []) plan) (sym c.into_parts-parts.ensures.same) c.in_ok-located.ensures.located in
    let shifts : c.in_ok-shifts.shifts.items ≡ layout_shifts l = c.in_ok-shifts.ensures in
    subst (λ s. StayApart s (run_cells r.runs)) (sym shifts) (stays-apart m plan valid may fits r is)

pub returns-clause-located : goal.returns-clause-located
returns-clause-located c =
    let m = c.args.module.now in
    let plan = c.args.plan.now in
    let l = layout (m ∷ []) plan in
    let valid = c.a_module_is_valid.ensures.valid in
    let may = c.modules_may_be_placed.ensures m plan valid in
    let fits : layout_fact (m ∷ []) l ≡ None = ap (option_map placement) c.requires.placed.places.fits in
    let r = c.into_parts-parts.result in
    let is : IsLocation (m ∷ []) plan r = subst (IsLocation (m ∷ []) plan) (sym c.into_parts-parts.ensures.same) c.in_ok-located.ensures.located in
    let shifts : c.in_ok-shifts.shifts.items ≡ layout_shifts l = c.in_ok-shifts.ensures in
    let copies = c.as_slice-copies.ensures ∙ c.requires.placed.copies.are in
    let bases : c.as_slice.result.now ≡ layout_bases l = c.as_slice.ensures ∙ c.requires.placed.places.bases_are in
    let count = c.requires.placed.count ∙ sym (length-append l.sections l.commons) in
    let back = c.split_at.ensures.back ∙ (λ i. drop (count i) (bases i)) in
    located-with m plan valid may fits r is c.in_ok-parts.field-0 c.in_ok-parts-2.field-0
    (c.in_ok-parts.ensures ∙ (λ i. r.sections ++ placed_copies (copies i) (back i)))
    (subst (λ s. AreRunsOf (shifted_cells s (run_cells r.runs)) c.in_ok-parts-2.field-0) shifts c.in_ok-parts-2.ensures)
