use Rattle.std.proofs.Common.{◌≡◌, ◌+◌, [], drop, length}
use Rattle.mufom_prune.specs.Steps.{with_names}
use Rattle.mufom_prune.proofs.needs.index_publics.Given as goal

abbrev pub invariant-loop-place : goal.invariant-loop-place
invariant-loop-place l = with_names l.index (length l.parts.sections + l.place) (drop l.place l.publics) ≡ with_names [] (length l.parts.sections) l.publics
