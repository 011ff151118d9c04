use Rattle.std.proofs.Common.{ap, length, arith}
use Rattle.mufom_image_values.proofs.CountLaws.{few-publics}
use Rattle.mufom_image_values.proofs.components.components_of.Goals as goal

pub overflow_cast-root : goal.overflow_cast-root
overflow_cast-root c =
    let few = few-publics c.args.graph.now.parts.now c.requires.valid in
    omega (arith, few, c.loop-root-test.true, ap length c.publics-count.ensures)
