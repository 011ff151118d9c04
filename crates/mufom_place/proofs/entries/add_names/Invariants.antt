use Rattle.std.proofs.Common.{◌≡◌, ◌++◌, take}
use Rattle.mufom_place.proofs.entries.add_names.Given as goal

abbrev pub invariant-loop-name : goal.invariant-loop-name
invariant-loop-name l = l.index ≡ l.fn.index ++ take l.name-index l.names
