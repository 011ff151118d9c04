use Rattle.std.proofs.Common.{◌≡◌, ◌<◌, length, get_or, ◌+◌, ◌∷◌, ◌++◌, take, drop, take-append-drop, sym, ap, ◌∙◌, append_assoc, subst}
use Rattle.std.proofs.lemmas.List.{drop_more}
use Rattle.std.proofs.lemmas.Grind.{flat_map-append}
use Rattle.mufom_plan.specs.Names.{AreDistinctNames, listed_names}
use Rattle.mufom_place.proofs.EntryLaws.{distinct-prefix}
use Rattle.mufom_place.proofs.entries.index_of_entries.Goals as goal

pub add_names-requires : goal.add_names-requires
add_names-requires c =
    let regions = c.args.plan.now.regions in
    let i = c.loop-region.region-index in
    let region = c.region-item.result in
    let all = c.as_slice-region-items.ensures in
    let is : region ≡ get_or regions i region = c.region-item.is ∙ ap (λ rs. get_or rs i region) all in
    let less : i < length regions = subst (λ rs. i < length rs) all c.loop-region-test.true in
    let cut : regions ≡ take i regions ++ region ∷ drop (i + 1) regions =
    sym (take-append-drop i regions) ∙ ap (λ rest. take i regions ++ rest) (drop_more regions i region less ∙ ap (λ r. r ∷ drop (i + 1) regions) (sym is)) in
    let names : listed_names regions ≡ (listed_names (take i regions) ++ region.sections) ++ listed_names (drop (i + 1) regions) =
    ap listed_names cut ∙ flat_map-append (λ r. r.sections) (take i regions) (region ∷ drop (i + 1) regions)
    ∙ sym (append_assoc (listed_names (take i regions)) region.sections (listed_names (drop (i + 1) regions))) in
    let whole = subst AreDistinctNames names c.requires in
    let prefix = distinct-prefix (listed_names (take i regions) ++ region.sections) (listed_names (drop (i + 1) regions)) whole in
    subst AreDistinctNames (λ j. sym c.loop-region.invariant j ++ sym c.as_slice.ensures j) prefix
