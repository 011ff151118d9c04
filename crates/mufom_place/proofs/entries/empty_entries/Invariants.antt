use Rattle.std.proofs.Common.{◌≡◌, [], replicate}
use Rattle.mufom_place.proofs.entries.empty_entries.Given as goal

abbrev pub invariant-loop : goal.invariant-loop
invariant-loop l = l.entries.items ≡ replicate l.counter []
