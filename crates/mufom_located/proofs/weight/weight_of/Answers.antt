use Rattle.std.proofs.Common.{arith}
use Rattle.mufom_module.proofs.WeightLaws.{weight-sum}
use Rattle.mufom_meaning.specs.Absolute.{absolute_of}
use Rattle.mufom_located.proofs.WeightLaws.{located-light}
use Rattle.mufom_located.proofs.weight.weight_of.Goals as goal

pub returns : goal.returns
returns c =
    let light = located-light c.absolute_weighs.ensures c.answers_are_facts.ensures c.args.parts.now c.requires in
    let whole = weight-sum (absolute_of c.args.parts.now) in
    let found = c.absolute_weight.ensures in
    omega (arith, light, whole, found)
