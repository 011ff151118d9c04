use Rattle.std.proofs.Common.{◌++◌, length, length-append, sym, ap, ◌∙◌, subst, ◌+◌}
use Rattle.std.specs.Prelude.{IfErr}
use Rattle.mufom_place.specs.Facts.{◌or_else◌, IsAnswer}
use Rattle.mufom_place.specs.Copies.{all_placings, all_sections, fit_refusal, with_copies}
use Rattle.mufom_place.specs.Filling.{AreSizedFrom}
use Rattle.mufom_place.proofs.FillingLemmas.{sized-after}
use Rattle.mufom_place.proofs.copies.place_copies.Goals as goal

pub add_copies-requires-clause-sized : goal.add_copies-requires-clause-sized
add_copies-requires-clause-sized c =
    let sections = c.args.sections.now in
    let commons = c.args.commons.now in
    let copied = c.args.copies.now in
    subst (λ n. AreSizedFrom c.args.whole.now n copied) (length-append sections commons)
    (subst (λ whole. AreSizedFrom whole (length (sections ++ commons)) copied) (sym c.requires.whole) (sized-after (sections ++ commons) copied))

pub returns-clause-refused : goal.returns-clause-refused
returns-clause-refused c =
    let plan = c.args.plan.now in
    let sections = c.args.sections.now in
    let commons = c.args.commons.now in
    let copied = c.args.copies.now in
    let regions = c.as_slice-regions.ensures in
    let whole = c.requires.whole in
    let first = c.in_ok-placings.ensures.given in
    let given = c.as_slice.ensures ∙ c.in_ok-add_copies.ensures
    ∙ (λ i. with_copies (regions i) (whole i) (first i) (length sections + length commons) copied) in
    let rest = fit_refusal c.args.width plan.regions (all_placings plan sections commons copied) (all_sections sections commons copied) in
    subst (λ answer. IfErr c.fitting_bases.result (IsAnswer answer))
    ((λ i. fit_refusal c.args.width (regions i) (given i) (whole i)) ∙ ap (λ o. o or_else rest) (sym c.in_ok-placings.ensures.placed))
    c.fitting_bases.ensures.refused
