use Rattle.std.proofs.Common.{◌≡◌, ◌++◌, map, take}
use Rattle.mufom_prune.specs.Steps.{reference_needs}
use Rattle.mufom_prune.proofs.needs.add_references.Given as goal

abbrev pub invariant-loop-reference : goal.invariant-loop-reference
invariant-loop-reference l = l.needs.items ≡ l.fn.needs.items ++ map (reference_needs l.publics) (take l.reference-index l.references)
