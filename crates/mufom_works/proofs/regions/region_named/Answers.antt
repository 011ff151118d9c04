use Rattle.std.proofs.Common.{◌∙◌, sym}
use Rattle.mufom_works.proofs.RegionLaws.{named-here, named-later}
use Rattle.mufom_works.proofs.regions.region_named.Goals as goal

pub loop-region-preserved : goal.loop-region-preserved
loop-region-preserved c =
    named-later c.args.regions.now c.args.name.now c.loop-region.region-index c.region-item.result c.loop-region-test.true c.region-item.is
    c.loop-region.invariant (sym c.has_name.ensures ∙ c.if-has_name.false)

pub returns-then-has_name : goal.returns-then-has_name
returns-then-has_name c =
    sym (named-here c.args.regions.now c.args.name.now c.loop-region.region-index c.region-item.result c.loop-region-test.true c.region-item.is
    c.loop-region.invariant (sym c.has_name.ensures ∙ c.if-has_name.true))
