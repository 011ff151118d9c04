use Rattle.std.proofs.Common.{◌≡◌, ◌∙◌, ◌+◌, ◌<◌, List, [], ◌∷◌, length, take, drop, sym, ap, subst, arith, refl}
use Rattle.mufom_meaning.specs.Placed.{extended_sections}
use Rattle.std.specs.Prelude.{All}
use Rattle.mufom_module.specs.declared.module.Parts.{Parts}
use Rattle.mufom_sections.specs.declared.section.Section.{Section}
use Rattle.mufom_place.specs.Bases.{placings}
use Rattle.mufom_place.specs.Copies.{with_copies}
use Rattle.mufom_place.specs.Filling.{AreSizedFrom}
use Rattle.mufom_planned.specs.Layout.{Layout, layout, whole_list}
use Rattle.mufom_locating.proofs.LayoutLaws.{aligned-parts, sections-part, commons-part}
use Rattle.mufom_place.specs.Facts.{IsAligned}
use Rattle.mufom_locating.proofs.MoveLaws.{plain-whole, sized, whole-count}
use Rattle.mufom_locating.proofs.copied.placings_of.Goals as goal

pub all_placings-requires-clause-aligned_commons : goal.all_placings-requires-clause-aligned_commons
all_placings-requires-clause-aligned_commons c =
    let m = c.args.module.now in
    let plan = c.args.plan.now in
    let l = layout (m ∷ []) plan in
    let whole : c.as_slice-whole.result.now ≡ whole_list l = c.as_slice-whole.ensures ∙ c.requires.placed.whole in
    let plain = c.split_at.ensures.front ∙ plain-whole l c.as_slice-whole.result.now c.args.placed.now.plain whole c.requires.placed.count in
    let own = c.len.ensures ∙ ap (λ (p : Parts). length p.sections) c.parts.ensures.same in
    let commons : c.split_at-2.result.1.now ≡ l.commons = c.split_at-2.ensures.back ∙ (λ i. drop (own i) (plain i))
    ∙ commons-part m plan (extended_sections (m ∷ []) plan) refl in
    subst (All IsAligned) (sym commons) (aligned-parts m plan (c.modules_may_be_placed.ensures m plan c.parts.ensures.valid)).1

pub add_copies-requires-clause-count : goal.add_copies-requires-clause-count
add_copies-requires-clause-count c =
    let l = layout (c.args.module.now ∷ []) c.args.plan.now in
    let total = whole-count l in
    let few = c.requires.placed.places.few in
    let count = c.requires.placed.count in
    let copies = ap length (c.as_slice-2.ensures ∙ c.requires.placed.copies.are) in
    omega (arith, total, few, count, copies)

pub add_copies-requires-clause-sized : goal.add_copies-requires-clause-sized
add_copies-requires-clause-sized c =
    let l = layout (c.args.module.now ∷ []) c.args.plan.now in
    let whole : c.as_slice-whole.result.now ≡ whole_list l = c.as_slice-whole.ensures ∙ c.requires.placed.whole in
    let copies = c.as_slice-2.ensures ∙ c.requires.placed.copies.are in
    let count = c.requires.placed.count in
    subst (λ xs. AreSizedFrom xs c.args.placed.now.plain c.as_slice-2.result.now) (sym whole)
    (subst (λ n. AreSizedFrom (whole_list l) n c.as_slice-2.result.now) (sym count)
    (subst (AreSizedFrom (whole_list l) (length l.sections + length l.commons)) (sym copies) (sized l)))

pub returns : goal.returns
returns c =
    let m = c.args.module.now in
    let plan = c.args.plan.now in
    let l = layout (m ∷ []) plan in
    let whole : c.as_slice-whole.result.now ≡ whole_list l = c.as_slice-whole.ensures ∙ c.requires.placed.whole in
    let copies = c.as_slice-2.ensures ∙ c.requires.placed.copies.are in
    let count = c.requires.placed.count in
    let plain = c.split_at.ensures.front ∙ plain-whole l c.as_slice-whole.result.now c.args.placed.now.plain whole count in
    let own = c.len.ensures ∙ ap (λ (p : Parts). length p.sections) c.parts.ensures.same in
    let sections : c.split_at-2.result.0.now ≡ l.sections = c.split_at-2.ensures.front ∙ (λ i. take (own i) (plain i)) ∙ sections-part m plan (extended_sections (m ∷ []) plan) refl in
    let commons : c.split_at-2.result.1.now ≡ l.commons = c.split_at-2.ensures.back ∙ (λ i. drop (own i) (plain i)) ∙ commons-part m plan (extended_sections (m ∷ []) plan) refl in
    let given = c.in_ok-placings.ensures.given ∙ (λ i. placings plan (sections i) (commons i)) in
    c.in_ok-add_copies.ensures ∙ (λ i. with_copies (c.as_slice.ensures i) (whole i) (given i) (count i) (copies i))
