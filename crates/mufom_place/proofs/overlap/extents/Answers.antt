use Rattle.std.proofs.Common.{◌<◌, ◌+◌, ◌∷◌, ◌++◌, [], drop, length, get_or, sym, ap, ◌∙◌, append_assoc, arith}
use Rattle.std.proofs.lemmas.List.{append-nil, drop_more}
use Rattle.mufom_place.specs.Bases.{numbered}
use Rattle.mufom_place.specs.Facts.{extents as extents_of}
use Rattle.mufom_place.proofs.Steps.{drop-numbered, drop-numbered-all}
use Rattle.mufom_place.proofs.ExtentSteps.{extents-empty, extents-some}
use Rattle.mufom_place.proofs.overlap.extents.Goals as goal

pub loop-place-preserved-then-section-eq0 : goal.loop-place-preserved-then-section-eq0
loop-place-preserved-then-section-eq0 c =
    let sections = c.args.sections.now in
    let bases = c.args.bases.now in
    let place = c.loop-place.place in
    let section = c.index-sections-place.result in
    let less : place < length bases = let same = c.requires.same in let less = c.loop-place-test.true in omega (arith, same, less) in
    let more = drop (place + 1) (numbered sections) in
    c.loop-place.invariant
    ∙ (λ i. c.loop-place.extents.items ++ extents_of (drop-numbered sections place section c.loop-place-test.true c.index-sections-place.is i)
    (drop_more bases place 0 less i))
    ∙ ap (λ list. c.loop-place.extents.items ++ list) (extents-empty (place, section) more (get_or bases place 0) (drop (place + 1) bases)
    c.if-section-eq0.true)

pub loop-place-preserved : goal.loop-place-preserved
loop-place-preserved c =
    let sections = c.args.sections.now in
    let bases = c.args.bases.now in
    let place = c.loop-place.place in
    let section = c.index-sections-place.result in
    let less : place < length bases = let same = c.requires.same in let less = c.loop-place-test.true in omega (arith, same, less) in
    let more = drop (place + 1) (numbered sections) in
    c.loop-place.invariant
    ∙ (λ i. c.loop-place.extents.items ++ extents_of (drop-numbered sections place section c.loop-place-test.true c.index-sections-place.is i)
    (drop_more bases place 0 less i))
    ∙ ap (λ list. c.loop-place.extents.items ++ list) (extents-some (place, section) more (get_or bases place 0) (drop (place + 1) bases)
    c.if-section-eq0.false)
    ∙ sym (append_assoc c.loop-place.extents.items (record { base = get_or bases place 0; section = place; size = section.size } ∷ [])
    (extents_of more (drop (place + 1) bases)))
    ∙ ap (λ list. list ++ extents_of more (drop (place + 1) bases)) (sym c.in_ok-push.ensures.items)

pub returns : goal.returns
returns c =
    let all = drop-numbered-all c.args.sections.now c.loop-place.place c.loop-place-test.false in
    sym (c.loop-place.invariant ∙ ap (λ rest. c.loop-place.extents.items ++ extents_of rest (drop c.loop-place.place c.args.bases.now)) all
    ∙ append-nil c.loop-place.extents.items)
