use Rattle.std.proofs.Common.{◌≡◌, ◌<◌, ◌+◌, ◌*◌, ◌++◌, ◌∷◌, [], ◌^◌, get_or, length, drop, sym, ap, ◌∙◌, subst, arith}
use Rattle.std.proofs.lemmas.List.{drop_more, drop_all, get_or_default}
use Rattle.mufom_place.specs.Bases.{aligned_up}
use Rattle.mufom_place.specs.Copies.{placed_end, copy_placing, with_copies}
use Rattle.mufom_place.specs.Filling.{AreFilled, AreLowEnds, AreSizedFrom, IsPlaceableCopy, raised}
use Rattle.mufom_place.proofs.FillingLemmas.{filled-raised, low-raised}
use Rattle.mufom_place.proofs.copies.add_copies.Goals as goal

pub loop-place-init : goal.loop-place-init
loop-place-init c =
    let first = c.args.first in
    let zero_more : first ≡ first + 0 = omega arith in
    record {
      filled = subst (λ ps. AreFilled c.args.regions.now c.args.sections.now ps c.in_ok-ends.ends.items) c.as_slice.ensures c.in_ok-ends.ensures.filled;
      low = c.in_ok-ends.ensures.low;
      sized = subst (λ n. AreSizedFrom c.args.sections.now n c.args.copies.now) zero_more c.requires.sized;
      rest = ap (λ n. with_copies c.args.regions.now c.args.sections.now c.args.placings.now n c.args.copies.now) zero_more;
    }

pub loop-place-preserved : goal.loop-place-preserved
loop-place-preserved c =
    let regions = c.args.regions.now in
    let sections = c.args.sections.now in
    let copies = c.args.copies.now in
    let n = c.loop-place.place in
    let at = c.args.first + n in
    let given = c.loop-place.placings in
    let ends = c.loop-place.ends.items in
    let copy = c.index-copies-place.result in
    let more = drop (n + 1) copies in
    let next = drop_more copies n copy c.loop-place-test.true ∙ ap (λ v. v ∷ more) (sym c.index-copies-place.is) in
    let own = subst (AreSizedFrom sections at) next c.loop-place.invariant.sized in
    let placeable = subst (IsPlaceableCopy regions) (sym c.index-copies-place.is) (c.requires.placeable n copy c.loop-place-test.true) in
    let p = copy_placing regions sections given at copy in
    let inside : copy.holder < length ends = let held = placeable.held in let count = c.loop-place.invariant.filled.count in omega (arith, held, count) in
    let end : c.index.result.now ≡ get_or ends copy.holder 0 = c.index.ensures
    ∙ get_or_default ends copy.holder c.index.result.now 0 inside in
    let filled = end ∙ c.loop-place.invariant.filled.each copy.holder placeable.held in
    let base = c.extent_of-base.ensures.base ∙ ap (aligned_up copy.section.align) filled in
    let pushed = c.in_ok-push.ensures.ok
    ∙ ap (λ b. given ++ (record { section = at; region = copy.holder; base = b }) ∷ []) base in
    let size = own.0 in
    let total : c.extent_of-base.result.1 ≡ placed_end sections p = c.extent_of-base.ensures.end ∙ (λ i. base i + sym size i) in
    let after = c.raise.ensures ∙ ap (λ e. raised copy.holder e ends) total in
    let low = c.loop-place.invariant.low copy.holder 0 inside in
    let bound = c.extent_of-base.ensures.bound in
    let below : placed_end sections p < 2 ^ 101 + (n + 1) * 2 ^ 65 = omega (arith, low, bound, total, end) in
    let step : at + 1 ≡ c.args.first + (n + 1) = omega arith in
    record {
      filled = subst (λ ps. AreFilled regions sections ps c.raise.new.ends.items) (sym pushed)
          (subst (AreFilled regions sections (given ++ p ∷ [])) (sym after) (filled-raised regions sections given p ends c.loop-place.invariant.filled));
      low = subst (AreLowEnds (n + 1)) (sym after) (low-raised (n + 1) copy.holder (placed_end sections p) ends
          (λ k d h. let own = c.loop-place.invariant.low k d h in omega (arith, own)) below);
      sized = subst (λ m. AreSizedFrom sections m more) step own.1;
      rest = c.loop-place.invariant.rest ∙ ap (with_copies regions sections given at) next
          ∙ ap (λ ps. with_copies regions sections ps (at + 1) more) (sym pushed)
          ∙ ap (λ m. with_copies regions sections c.push.new.self m more) step;
    }

pub returns : goal.returns
returns c =
    let all = drop_all c.loop-place.place c.args.copies.now c.loop-place-test.false in
    sym (c.loop-place.invariant.rest ∙ ap (with_copies c.args.regions.now c.args.sections.now c.loop-place.placings (c.args.first + c.loop-place.place)) all)
