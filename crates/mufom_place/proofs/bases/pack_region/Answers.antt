use Rattle.std.proofs.Common.{List, ◌++◌, sym, ap, ◌∙◌, append_assoc}
use Rattle.std.specs.List.{flat_map}
use Rattle.mufom_place.specs.declared.placing.Waiting.{Waiting}
use Rattle.mufom_place.specs.Bases.{packed}
use Rattle.mufom_place.specs.Packing.{end_of}
use Rattle.mufom_place.proofs.PackingLemmas.{packed-append}
use Rattle.mufom_place.proofs.bases.pack_region.Goals as goal

pub returns-clause-placed : goal.returns-clause-placed
returns-clause-placed c =
    let all = flat_map (λ (waiting : List Waiting). waiting) c.args.entries.now in
    let region = c.args.region in
    c.in_ok-pack.ensures.placed
    ∙ (λ i. c.in_ok-end.ensures.placed i ++ packed region (c.in_ok-end.ensures.end i) c.args.commons.now)
    ∙ append_assoc c.args.placings.now (packed region c.args.base all) (packed region (end_of c.args.base all) c.args.commons.now)
    ∙ ap (λ more. c.args.placings.now ++ more) (sym (packed-append region c.args.base all c.args.commons.now))
