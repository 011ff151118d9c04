use Rattle.std.proofs.Common.{◌+◌, sum_by, arith}
use Rattle.mufom_module.specs.Weights.{load_weight}
use Rattle.mufom_meaning.specs.Absolute.{section_loads}
use Rattle.mufom_located.proofs.WeightLaws.{sections-next}
use Rattle.mufom_located.proofs.weight.loads_weight.Goals as goal

pub loop-section-preserved : goal.loop-section-preserved
loop-section-preserved c =
    let f = section_loads c.args.runs.now in
    let section = c.section-item.result in
    let i = c.loop-section.section-index in
    let next = sections-next f c.args.sections.now i section c.loop-section-test.true c.section-item.is in
    let own = sum_by load_weight (f (i, section)) in
    let weighs = c.section_loads_weight.ensures i in
    (c.loop-section.invariant.0 + own, grind arith, omega (arith, next, c.loop-section.invariant.2))
