use Rattle.std.proofs.Common.{◌<◌, ap, length, arith}
use Rattle.mufom_image_values.specs.Evaluated.{graph_edges, AreEvaluated, IsEvaluated}
use Rattle.mufom_image_values.proofs.CountLaws.{few-publics}
use Rattle.mufom_image_values.proofs.TokenLoops.{below_more}
use Rattle.mufom_image_values.proofs.values.PlacedModule.evaluate_all.Goals as goal

pub overflow_cast-position : goal.overflow_cast-position
overflow_cast-position c =
    let few = few-publics c.args.self.now.graph.parts.now c.requires.placed.graph.valid in
    omega (arith, few, c.loop-position-test.true, ap length c.publics-position-end.ensures)

pub loop-position-preserved : goal.loop-position-preserved
loop-position-preserved c =
    let first = c.args.values.now.items in
    let kept = c.evaluate.ensures.kept in
    let inside : c.loop-position.position < length c.args.self.now.graph.parts.now.names.publics =
    omega (arith, c.loop-position-test.true, ap length c.publics-position-end.ensures) in (
      c.evaluate.ensures.right,
      λ n e. kept n (c.loop-position.invariant.1 n e),
      below_more (λ n. AreEvaluated first (graph_edges c.args.self.now.graph n) → IsEvaluated c.evaluate.new.values.items n) c.loop-position.position
          (λ n less e. kept n (c.loop-position.invariant.2 n less e))
          (λ e. c.evaluate.ensures.settled inside (λ k h. c.loop-position.invariant.1 k (e k h))),
    )
