use Rattle.std.proofs.Common.{◌≡◌, ◌+◌, drop}
use Rattle.mufom_names.specs.Names.{names_of}
use Rattle.mufom_link.specs.Publics.{indexed}
use Rattle.mufom_link.proofs.facts.add_publics.Given as goal

abbrev pub invariant-loop-position : goal.invariant-loop-position
invariant-loop-position l = indexed l.index (l.first + l.position) (names_of (drop l.position l.publics)) ≡ indexed l.fn.index l.first (names_of l.publics)
