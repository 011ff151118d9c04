use Rattle.std.proofs.Common.{◌++◌, ◌∷◌, [], get_or, take, sym, subst}
use Rattle.std.proofs.lemmas.List.{take_more}
use Rattle.mufom_place.specs.declared.placing.Placing.{Placing}
use Rattle.mufom_place.specs.Filling.{AreMarked}
use Rattle.mufom_place.proofs.FillingLemmas.{marked-next, none-marked}
use Rattle.mufom_locating.proofs.ends.regions_placing.Goals as goal

pub loop-placing-init : goal.loop-placing-init
loop-placing-init c = none-marked c.args.count c.in_ok-marks.marks.items (c.in_ok-marks.ensures.items_if_clones_equal (λ y e. e))

pub loop-placing-preserved : goal.loop-placing-preserved
loop-placing-preserved c =
    let placings = c.args.placings.now in
    let i = c.loop-placing.placing-index in
    let none : Placing = record { section = 0; region = 0; base = 0 } in
    let p = get_or placings i none in
    let more = take_more placings i none c.loop-placing-test.true in
    subst (λ ps. AreMarked c.args.count ps c.mark.new.marks.items) (sym more)
    (subst (AreMarked c.args.count (take i placings ++ p ∷ [])) (sym c.mark.ensures)
    (marked-next c.args.count (take i placings) p c.loop-placing.marks.items c.loop-placing.invariant))
