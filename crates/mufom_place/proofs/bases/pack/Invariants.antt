use Rattle.std.proofs.Common.{◌≡◌, ◌+◌, ◌*◌, ◌^◌, ◌≤◌, ◌++◌, drop}
use Rattle.std.specs.Prelude.{All}
use Rattle.mufom_place.specs.Bases.{packed}
use Rattle.mufom_place.specs.Packing.{IsLow, end_of}
use Rattle.mufom_place.proofs.bases.pack.Given as goal

-- the sections so far are put, and each took less than 2 ^ 65 units
abbrev pub invariant-loop-section : goal.invariant-loop-section
invariant-loop-section l = record {
  placed : l.fn.placings ++ packed l.region l.address l.waiting ≡ l.placings ++ packed l.region l.end (drop l.section-index l.waiting);
  ends : end_of l.address l.waiting ≡ end_of l.end (drop l.section-index l.waiting);
  low : All IsLow l.placings;
  bound : l.end ≤ l.address + l.section-index * 2 ^ 65;
}
