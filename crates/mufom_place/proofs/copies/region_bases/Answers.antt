use Rattle.std.proofs.Common.{◌∙◌, ap, map}
use Rattle.std.proofs.lemmas.List.{take_all}
use Rattle.mufom_plan.specs.declared.plan.Region.{Region}
use Rattle.mufom_place.proofs.FillingLemmas.{filled-bases}
use Rattle.mufom_place.proofs.copies.region_bases.Goals as goal

pub returns-clause-filled : goal.returns-clause-filled
returns-clause-filled c =
    let regions = c.args.regions.now in
    let all = c.loop-region.invariant.bases ∙ ap (map (λ (r : Region). r.base)) (take_all c.loop-region.region-index regions c.loop-region-test.false) in
    filled-bases regions c.loop-region.ends.items all
