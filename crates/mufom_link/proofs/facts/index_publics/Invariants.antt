use Rattle.std.proofs.Common.{◌≡◌, ◌+◌, [], length, drop}
use Rattle.mufom_meaning.specs.Flat.{public_names}
use Rattle.mufom_link.specs.Publics.{indexed}
use Rattle.mufom_link.proofs.facts.index_publics.Given as goal

abbrev pub invariant-loop-module : goal.invariant-loop-module
invariant-loop-module l =
    (indexed l.index l.first (public_names (drop l.module-index l.list)) ≡ indexed [] 0 (public_names l.list))
    × (l.first + length (public_names (drop l.module-index l.list)) ≡ length (public_names l.list))
