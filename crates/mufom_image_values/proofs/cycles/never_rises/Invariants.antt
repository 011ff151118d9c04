use Rattle.std.proofs.Common.{◌<◌, ◌≤◌, ℕ}
use Rattle.std.specs.Prelude.{Contains}
use Rattle.mufom_image_values.specs.Graph.{edges}
use Rattle.mufom_image_values.specs.Circles.{number_at}
use Rattle.mufom_image_values.proofs.cycles.never_rises.Given as goal

-- no step from a position so far leads up
abbrev pub invariant-loop-position : goal.invariant-loop-position
invariant-loop-position l =
    (n next : ℕ) → n < l.position → Contains (edges l.graph.resolutions.now l.graph.parts.now.names.publics n) next
    → number_at l.numbers next ≤ number_at l.numbers n
