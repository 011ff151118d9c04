use Rattle.std.proofs.Common.{◌≡◌, ◌∙◌, ◌+◌, ◌<◌, ◌++◌, ◌∷◌, [], List, take, get_or, length, sym, ap, append_assoc, arith, true, Some}
use Rattle.std.proofs.lemmas.Option.{slice_get-get_or}
use Rattle.mufom_sections.specs.declared.section.Section.{Section}
use Rattle.mufom_locating.specs.Copied.{placed_copies}
use Rattle.mufom_locating.proofs.SectionLaws.{copies-more}
use Rattle.mufom_locating.proofs.copies.with_placed_copies.Goals as goal

pub loop-place-preserved : goal.loop-place-preserved
loop-place-preserved c =
    let copies = c.args.copies.now in
    let bases = c.args.bases.now in
    let k = c.loop-place.place in
    let copy = c.index-copies-place.result in
    let less = c.loop-place-test.true in
    let count = c.requires in
    let base = get_or bases k 0 in
    let item : Section = record copy.section { absolute = true; base = Some base } in
    let found = slice_get-get_or copies k copy less ∙ ap (λ x. Some x) (sym c.index-copies-place.is) in
    let own = slice_get-get_or bases k 0 (omega (arith, less, count)) in
    c.in_ok-push.ensures.ok ∙ ap (λ (x : Section). c.loop-place.all ++ x ∷ []) c.in_ok-placed_copy.ensures
    ∙ ap (λ (xs : List Section). xs ++ item ∷ []) c.loop-place.invariant
    ∙ append_assoc c.args.sections (placed_copies (take k copies) (take k bases)) (item ∷ [])
    ∙ ap (λ (xs : List Section). c.args.sections ++ xs) (sym (copies-more copies bases k copy base found own))
