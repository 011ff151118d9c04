use Rattle.std.proofs.Common.{◌+◌, ◌<◌, length, arith}
use Rattle.mufom_located.proofs.WeightLaws.{literals-next}
use Rattle.mufom_located.proofs.weight.literals_weight.Goals as goal

pub loop-rest-preserved : goal.loop-rest-preserved
loop-rest-preserved c =
    let rest = c.loop-rest.rest.now in
    let some : 0 < length rest = grind arith in
    let own = c.split_at.result.0.now in
    let split = literals-next rest own c.split_at.result.1.now c.min.result some (grind arith) c.split_at.ensures.front c.split_at.ensures.back in
    let taken = c.loop-rest.invariant.0 in
    (taken + (10 + length own), grind arith, omega (arith, split, c.loop-rest.invariant.2))
