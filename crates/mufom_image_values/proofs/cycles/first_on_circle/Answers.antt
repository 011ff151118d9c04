use Rattle.std.proofs.Common.{◌∙◌, ap, sym, length, arith}
use Rattle.mufom_image_values.specs.Graph.{edges}
use Rattle.mufom_image_values.specs.Circles.{number_at, IsOnCircle}
use Rattle.mufom_image_values.proofs.GraphLaws.{no_way_back}
use Rattle.mufom_image_values.proofs.TokenLoops.{below_more, strictly-down}
use Rattle.mufom_image_values.proofs.cycles.first_on_circle.Goals as goal

pub loop-position-preserved-then-leads_down : goal.loop-position-preserved-then-leads_down
loop-position-preserved-then-leads_down c =
    let steps = edges c.args.graph.now.resolutions.now c.args.graph.now.parts.now.names.publics in
    let number = number_at c.as_slice-numbers.result.now in
    let position = c.loop-position.position in
    let falls = c.never_rises-falling.ensures c.if-falling.true in
    let down = strictly-down number steps position (sym c.leads_down.ensures ∙ c.if-leads_down.true) in
    below_more (λ n. ¬ IsOnCircle steps n) position c.loop-position.invariant (no_way_back number steps falls position down)

pub loop-position-preserved : goal.loop-position-preserved
loop-position-preserved c =
    let steps = edges c.args.graph.now.resolutions.now c.args.graph.now.parts.now.names.publics in
    let back = c.in_ok-leads_back.ensures in
    let fails = c.if-branch.false in
    below_more (λ n. ¬ IsOnCircle steps n) c.loop-position.position c.loop-position.invariant
    (λ circle. absurd (let passes = back.1 circle in cc))

pub returns : goal.returns
returns c n less circle =
    c.loop-position.invariant n (omega (arith, less, c.loop-position-test.false, ap length c.publics-position-end.ensures)) circle
