use Rattle.std.proofs.Common.{◌≡◌, ◌+◌, ◌*◌, ◌^◌, ◌≤◌, ◌++◌, drop, length, sum_by}
use Rattle.std.specs.Prelude.{All}
use Rattle.std.specs.List.{flat_map}
use Rattle.mufom_place.specs.Bases.{packed}
use Rattle.mufom_place.specs.Packing.{IsLow, end_of}
use Rattle.mufom_place.proofs.bases.pack_entries.Given as goal

-- the sections at the entries so far are put
abbrev pub invariant-loop-waiting : goal.invariant-loop-waiting
invariant-loop-waiting l = record {
  placed : l.fn.placings ++ packed l.region l.address (flat_map (λ waiting. waiting) l.entries) ≡ l.placings
      ++ packed l.region l.end (flat_map (λ waiting. waiting) (drop l.waiting-index l.entries));
  ends : end_of l.address (flat_map (λ waiting. waiting) l.entries) ≡ end_of l.end (flat_map (λ waiting. waiting) (drop l.waiting-index l.entries));
  low : All IsLow l.placings;
  bound : l.end + sum_by length (drop l.waiting-index l.entries) * 2 ^ 65 ≤ l.address + sum_by length l.entries * 2 ^ 65;
}
