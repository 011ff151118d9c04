use Rattle.std.proofs.Common.{◌≡◌, ◌+◌, drop}
use Rattle.mufom_place.specs.Copies.{with_copies}
use Rattle.mufom_place.specs.Filling.{AreFilled, AreLowEnds, AreSizedFrom}
use Rattle.mufom_place.proofs.copies.add_copies.Given as goal

-- the copies so far are placed, and the rest are placed after them
abbrev pub invariant-loop-place : goal.invariant-loop-place
invariant-loop-place l = record {
  filled : AreFilled l.regions l.sections l.placings l.ends.items;
  low : AreLowEnds l.place l.ends.items;
  sized : AreSizedFrom l.sections (l.first + l.place) (drop l.place l.copies);
  rest : with_copies l.regions l.sections l.fn.placings l.first l.copies
      ≡ with_copies l.regions l.sections l.placings (l.first + l.place) (drop l.place l.copies);
}
