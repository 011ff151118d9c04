use Rattle.std.proofs.Common.{◌<◌, ℕ}
use Rattle.mufom_image_values.specs.Evaluated.{AreRight, AreKept, AreEvaluated, IsEvaluated, graph_edges}
use Rattle.mufom_image_values.proofs.values.PlacedModule.evaluate_all.Given as goal

-- what was evaluated is right and stays, and each public so far is evaluated whose mentions were
abbrev pub invariant-loop-position : goal.invariant-loop-position
invariant-loop-position l =
    AreRight l.self l.values.items
    × AreKept l.initial.values.items l.values.items
    × ((n : ℕ) → n < l.position → AreEvaluated l.initial.values.items (graph_edges l.self.graph n) → IsEvaluated l.values.items n)
