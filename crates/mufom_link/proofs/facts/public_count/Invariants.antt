use Rattle.std.proofs.Common.{◌≡◌, ◌+◌, length, drop}
use Rattle.mufom_meaning.specs.Flat.{public_names}
use Rattle.mufom_link.proofs.facts.public_count.Given as goal

abbrev pub invariant-loop-module : goal.invariant-loop-module
invariant-loop-module l = l.count + length (public_names (drop l.module-index l.list)) ≡ length (public_names l.list)
