use Rattle.std.proofs.Common.{◌≡◌, ◌<◌, ◌+◌, ◌-◌, ℕ, Bool, Option, false, get_or, length, sym, ap, subst, ◌∙◌, arith}
use Rattle.std.specs.Prelude.{IfSome}
use Rattle.std.proofs.lemmas.List.{get_or_default}
use Rattle.mufom_locating.specs.Ends.{copy_holder, with_copy_end}
use Rattle.mufom_place.proofs.FillingLemmas.{base-below}
use Rattle.mufom_locating.proofs.EndLaws.{AreWalked, walk-end, walk-next, walk-start}
use Rattle.mufom_locating.proofs.ends.ends_with_copies.Goals as goal

pub loop-place-init : goal.loop-place-init
loop-place-init c =
    walk-start c.args.regions.now c.args.plain.now c.args.placings.now c.args.loaded.now c.in_ok-ends.ends.items c.requires.plain c.in_ok-ends.ensures.filled

pub overflow_sub-index : goal.overflow_sub-index
overflow_sub-index c =
    let n = c.loop-place.place in
    let low = c.loop-place-test.true in
    let loaded_ends = c.in_ok-loaded_ends.loaded_ends.items in
    let filled = c.in_ok-loaded_ends.ensures.filled in
    let count = filled.count in
    let inside : n < length loaded_ends = omega (arith, low, count) in
    let at = c.index-in-loop-place.ensures ∙ get_or_default loaded_ends n c.index-in-loop-place.result.now 0 inside in
    let below = base-below c.args.regions.now c.args.plain.now c.args.loaded.now n c.index-regions-place.result low c.index-regions-place.is loaded_ends filled in
    omega (arith, at, below)

pub loop-place-preserved : goal.loop-place-preserved
loop-place-preserved c =
    let regions = c.args.regions.now in
    let plain = c.args.plain.now in
    let placings = c.args.placings.now in
    let loaded = c.args.loaded.now in
    let n = c.loop-place.place in
    let region = c.index-regions-place.result in
    let low = c.loop-place-test.true in
    let ends = c.loop-place.ends.items in
    let loaded_ends = c.in_ok-loaded_ends.loaded_ends.items in
    let filled = c.in_ok-loaded_ends.ensures.filled in
    let count = filled.count in
    let inside : n < length loaded_ends = omega (arith, low, count) in
    let end = c.index-in-loop-place.ensures ∙ get_or_default loaded_ends n c.index-in-loop-place.result.now 0 inside in
    let marks = c.in_ok-marks.marks.items in
    let marked = c.in_ok-marks.ensures in
    let sized = marked.sized in
    let marks_inside : n < length marks = omega (arith, low, sized) in
    let mark = c.index.ensures ∙ get_or_default marks n c.index.result.now false marks_inside in
    let holder : c.holder_of-holder.result ≡ copy_holder regions region (get_or marks n false) = c.holder_of-holder.ensures.holder
    ∙ ap (copy_holder regions region) mark in
    let within = subst (λ (o : Option ℕ). IfSome o (λ h. h < length regions)) holder c.holder_of-holder.ensures.within in
    let added = c.in_ok-add_copy.ensures ∙ (λ i. with_copy_end (holder i) (end i - region.base) ends) in
    subst (AreWalked regions plain placings loaded (n + 1)) (sym added)
    (walk-next regions plain placings loaded n region low c.index-regions-place.is marks loaded_ends marked filled within ends c.loop-place.invariant)

pub returns : goal.returns
returns c =
    walk-end c.args.regions.now c.args.plain.now c.args.placings.now c.args.loaded.now c.loop-place.place c.loop-place.ends.items c.loop-place-test.false
    c.loop-place.invariant
