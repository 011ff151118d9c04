use Rattle.std.proofs.Common.{◌∙◌, ◌++◌, ◌∷◌, ◌+◌, ap, sym, subst, drop, append_assoc}
use Rattle.std.specs.Prelude.{All, option_to_list}
use Rattle.std.proofs.lemmas.List.{drop_more}
use Rattle.mufom_place.specs.Copies.{copies_from}
use Rattle.mufom_place.specs.Filling.{IsPlaceableCopy}
use Rattle.mufom_place.proofs.FillingLemmas.{All-after, base-below, copied-at}
use Rattle.mufom_place.proofs.copied.copies_to.Goals as goal

pub copy_of-requires-clause-above : goal.copy_of-requires-clause-above
copy_of-requires-clause-above c =
    base-below c.args.regions.now c.args.placed.now c.args.loaded.now c.loop-place.place c.index-regions-place.result c.loop-place-test.true
    c.index-regions-place.is c.args.ends.now c.requires.ends

pub loop-place-preserved : goal.loop-place-preserved
loop-place-preserved c =
    let regions = c.args.regions.now in
    let placed = c.args.placed.now in
    let loaded = c.args.loaded.now in
    let n = c.loop-place.place in
    let region = c.index-regions-place.result in
    let copy = c.in_ok-copy.copy in
    let more = drop (n + 1) regions in
    let next = drop_more regions n region c.loop-place-test.true ∙ ap (λ v. v ∷ more) (sym c.index-regions-place.is) in
    let added = c.in_ok-add_copy.ensures in
    let own = c.in_ok-copy.ensures.copy
    ∙ copied-at regions placed loaded n region c.loop-place-test.true c.index-regions-place.is c.args.ends.now c.args.marks.now c.requires.ends
    c.requires.marks in
    record {
      copies = ap (λ xs. xs ++ copies_from regions placed loaded (n + 1) more) added
          ∙ append_assoc c.loop-place.copies (option_to_list copy) (copies_from regions placed loaded (n + 1) more)
          ∙ ap (λ xs. c.loop-place.copies ++ (xs ++ copies_from regions placed loaded (n + 1) more)) own
          ∙ ap (λ rs. c.loop-place.copies ++ copies_from regions placed loaded n rs) (sym next)
          ∙ c.loop-place.invariant.copies;
      placeable = subst (All (IsPlaceableCopy regions)) (sym added)
          (All-after (IsPlaceableCopy regions) c.loop-place.copies copy c.loop-place.invariant.placeable c.in_ok-copy.ensures.placeable);
    }
