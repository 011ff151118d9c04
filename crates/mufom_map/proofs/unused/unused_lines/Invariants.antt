use Rattle.std.proofs.Common.{take}
use Rattle.mufom_text.specs.Words.{each}
use Rattle.mufom_map.specs.MapText.{unused_lines}
use Rattle.mufom_map.specs.Unused.{missing_entries}
use Rattle.mufom_map.proofs.unused.unused_lines.Given as goal

abbrev pub invariant-loop-position : goal.invariant-loop-position
invariant-loop-position g l = g.K.Output.takes l.fn.out l.out (each (λ k r. unused_lines k (missing_entries l.names r)) (take l.position l.regions))
