use Rattle.std.proofs.Common.{◌∙◌, ℕ, max, ap, sym, if◌then◌else◌}
use Rattle.mufom_map.specs.Spot.{is_below}
use Rattle.mufom_map.proofs.SpotLaws.{greatest-more}
use Rattle.mufom_map.proofs.spot.greatest_value.Goals as goal

pub loop-public-preserved : goal.loop-public-preserved
loop-public-preserved c =
    let publics = c.args.publics.now in let i = c.loop-public.public-index in let p = c.public-item.result in
    let test = is_below c.args.base c.args.size c.args.address in
    c.greater-greatest.ensures ∙ ap (λ (so_far : ℕ). if test p.value then max so_far p.value else so_far) c.loop-public.invariant
    ∙ sym (greatest-more test publics i p p c.loop-public-test.true c.public-item.is)
