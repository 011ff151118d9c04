use Rattle.std.proofs.Common.{◌≡◌, ◌∙◌, ◌+◌, ◌*◌, ◌%◌, ◌^◌, ◌<◌, ℕ, List, [], ◌∷◌, length, map, drop, sym, ap, subst, arith, append-nil}
use Rattle.std.specs.List.{enumerate_from}
use Rattle.mufom_sections.specs.declared.section.Section.{Section}
use Rattle.mufom_module.specs.declared.module.Parts.{Parts}
use Rattle.mufom_plan.specs.declared.plan.PlanSymbol.{PlanSymbol}
use Rattle.mufom_plan.specs.declared.plan.Region.{Region}
use Rattle.mufom_plan.specs.Names.{listed_names}
use Rattle.mufom_place.specs.declared.placing.Placing.{Placing}
use Rattle.mufom_place.specs.Bases.{numbered, waiting_among}
use Rattle.mufom_place.specs.Filling.{AreFilled}
use Rattle.mufom_planned.specs.Layout.{layout, layout_bases, layout_placings, whole_list}
use Rattle.mufom_planned.specs.Numbers.{placed_for, symbol_number}
use Rattle.mufom_locating.specs.Moves.{region_move}
use Rattle.mufom_locating.proofs.LayoutLaws.{own-count}
use Rattle.mufom_locating.proofs.MoveLaws.{whole-count}
use Rattle.mufom_locating.proofs.SectionLaws.{plain-within}
use Rattle.mufom_locating.proofs.locating.values_at.Goals as goal

pub waiting_sections-requires-clause-count : goal.waiting_sections-requires-clause-count
waiting_sections-requires-clause-count c =
    let m = c.args.named.now in
    let l = layout (m ∷ []) c.args.plan.now in
    let total = whole-count l in
    let few = c.requires.placed.places.few in
    let own = own-count m c.args.plan.now in
    let same = ap length (c.as_slice.ensures ∙ ap (λ (p : Parts). p.sections) c.parts-parts.ensures.same) in
    omega (arith, total, few, own, same)

pub split_at-requires : goal.split_at-requires
split_at-requires c =
    plain-within (c.args.named.now ∷ []) c.args.plan.now c.as_slice-bases.result.now c.args.placed.now.plain
    (c.as_slice-bases.ensures ∙ c.requires.placed.places.bases_are) c.requires.placed.count

pub symbol_values-requires-clause-low : goal.symbol_values-requires-clause-low
symbol_values-requires-clause-low c =
    let may = c.modules_may_be_placed.ensures c.args.named.now c.args.plan.now c.parts-parts.ensures.valid in
    let least = may.addresses.least in
    let maus = ap (λ (p : Parts). p.maus) c.parts-parts.ensures.same in
    omega (arith, least, maus)

pub symbol_values-requires-clause-high : goal.symbol_values-requires-clause-high
symbol_values-requires-clause-high c =
    let may = c.modules_may_be_placed.ensures c.args.named.now c.args.plan.now c.parts-parts.ensures.valid in
    let most = may.addresses.most in
    let maus = ap (λ (p : Parts). p.maus) c.parts-parts.ensures.same in
    omega (arith, most, maus)

pub returns : goal.returns
returns c =
    let m = c.args.named.now in
    let plan = c.args.plan.now in
    let l = layout (m ∷ []) plan in
    let sections : c.as_slice.result.now ≡ l.sections = c.as_slice.ensures ∙ ap (λ (p : Parts). p.sections) c.parts-parts.ensures.same
    ∙ sym (append-nil m.sections) in
    let index = c.in_ok-index.ensures in
    let entries : c.deref.result.now ≡ map (placed_for l) (listed_names plan.regions) = c.deref.ensures.value ∙ c.in-Ok.ensures.waiting
    ∙ (λ i. map (waiting_among (index i) (numbered (sections i))) (index i)) in
    let bases : c.as_slice-bases.result.now ≡ layout_bases l = c.as_slice-bases.ensures ∙ c.requires.placed.places.bases_are in
    let count = c.requires.placed.count in
    let back = c.split_at.ensures.back ∙ (λ i. drop (count i) (bases i)) in
    let copies = c.as_slice-5.ensures ∙ c.requires.placed.copies.are in
    let moves = c.deref-2.ensures.value ∙ c.in_ok-moves.ensures
    ∙ (λ i. map (region_move (copies i) (back i)) (enumerate_from 0 (c.as_slice-regions.ensures i))) in
    let whole : c.as_slice-3.result.now ≡ whole_list l = c.as_slice-3.ensures ∙ c.requires.placed.whole in
    let placings : c.as_slice-4.result.now ≡ layout_placings l = c.as_slice-4.ensures ∙ c.in_ok-placings.ensures in
    let filled : AreFilled plan.regions (whole_list l) (layout_placings l) c.in_ok-ends.ends.items
    = subst (λ (rs : List Region). AreFilled rs (whole_list l) (layout_placings l) c.in_ok-ends.ends.items) c.as_slice-regions.ensures
    (subst (λ (xs : List Section). AreFilled c.as_slice-regions.result.now xs (layout_placings l) c.in_ok-ends.ends.items) whole
    (subst (λ (ps : List Placing). AreFilled c.as_slice-regions.result.now c.as_slice-3.result.now ps c.in_ok-ends.ends.items) placings c.in_ok-ends.ensures.filled)) in
    let ends : AreFilled plan.regions (whole_list l) (layout_placings l) c.deref-3.result.now
    = subst (λ (es : List ℕ). AreFilled plan.regions (whole_list l) (layout_placings l) es) (sym c.deref-3.ensures.value) filled in
    let maus = ap (λ (p : Parts). p.maus) c.parts-parts.ensures.same in
    c.in_ok-values.ensures l (record { regions = c.as_slice-regions.ensures; entries = entries; bases = bases; moves = moves; ends = ends })
    ∙ (λ i. map (λ (symbol : PlanSymbol). symbol_number l symbol.value % 2 ^ (8 * maus i)) (c.as_slice-6.ensures i))
