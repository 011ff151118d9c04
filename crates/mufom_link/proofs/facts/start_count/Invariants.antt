use Rattle.std.proofs.Common.{◌≡◌, ◌+◌, ◌≤◌, length, drop}
use Rattle.mufom_meaning.specs.Flat.{flat_starts}
use Rattle.mufom_link.proofs.facts.start_count.Given as goal

abbrev pub invariant-loop-module : goal.invariant-loop-module
invariant-loop-module l =
    (l.count + length (flat_starts (drop l.module-index l.list)) ≡ length (flat_starts l.list)) × (l.count ≤ l.module-index)
