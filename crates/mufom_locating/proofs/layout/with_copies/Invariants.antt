use Rattle.std.proofs.Common.{◌≡◌, ◌++◌, take}
use Rattle.mufom_place.specs.Copies.{copy_sections}
use Rattle.mufom_locating.proofs.layout.with_copies.Given as goal

abbrev pub invariant-loop-copy : goal.invariant-loop-copy
invariant-loop-copy l = l.all ≡ l.initial.all ++ copy_sections (take l.copy-index l.copies)
