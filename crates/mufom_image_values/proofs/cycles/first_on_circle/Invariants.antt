use Rattle.std.proofs.Common.{◌<◌, ℕ}
use Rattle.mufom_image_values.specs.Graph.{edges}
use Rattle.mufom_image_values.specs.Circles.{IsOnCircle}
use Rattle.mufom_image_values.proofs.cycles.first_on_circle.Given as goal

-- no position so far lies on a circle
abbrev pub invariant-loop-position : goal.invariant-loop-position
invariant-loop-position l = (n : ℕ) → n < l.position → ¬ IsOnCircle (edges l.graph.resolutions.now l.graph.parts.now.names.publics) n
