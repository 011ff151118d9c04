use Rattle.std.proofs.Common.{◌<◌, ◌+◌, ◌++◌, ◌∷◌, [], ◌^◌, get_or, take, sym, ap, ◌∙◌, subst, arith}
use Rattle.std.proofs.lemmas.List.{take_more}
use Rattle.mufom_place.specs.declared.placing.Placing.{Placing}
use Rattle.mufom_place.specs.Copies.{placed_end}
use Rattle.mufom_place.specs.Filling.{AreFilled, AreLowEnds, raised}
use Rattle.mufom_place.proofs.FillingLemmas.{filled-raised, low-raised}
use Rattle.mufom_place.proofs.copies.filled_to.Goals as goal

pub loop-placing-preserved : goal.loop-placing-preserved
loop-placing-preserved c =
    let regions = c.args.regions.now in
    let sections = c.args.sections.now in
    let placings = c.args.placings.now in
    let i = c.loop-placing.placing-index in
    let none : Placing = record { section = 0; region = 0; base = 0 } in
    let p = get_or placings i none in
    let more = take_more placings i none c.loop-placing-test.true in
    let size = c.size_at.ensures in
    let small = c.size_at.type_inv in
    let low = c.requires.low i none c.loop-placing-test.true in
    let after = c.raise.ensures ∙ ap (λ n. raised p.region (p.base + n) c.loop-placing.ends.items) size in
    let bound : placed_end sections p < 2 ^ 101 = omega (arith, size, small, low) in
    record {
      filled = subst (λ ps. AreFilled regions sections ps c.raise.new.ends.items) (sym more)
          (subst (AreFilled regions sections (take i placings ++ p ∷ [])) (sym after)
          (filled-raised regions sections (take i placings) p c.loop-placing.ends.items c.loop-placing.invariant.filled));
      low = subst (AreLowEnds 0) (sym after) (low-raised 0 p.region (placed_end sections p) c.loop-placing.ends.items c.loop-placing.invariant.low bound);
    }
