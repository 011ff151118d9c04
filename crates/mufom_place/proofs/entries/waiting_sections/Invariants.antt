use Rattle.std.proofs.Common.{◌≡◌, ◌≤◌, length, map, sum_by, take, drop}
use Rattle.mufom_place.specs.Bases.{numbered, waiting_among}
use Rattle.mufom_place.specs.Facts.{first_some, unplaced_at}
use Rattle.mufom_place.proofs.entries.waiting_sections.Given as goal

abbrev pub invariant-loop-place : goal.invariant-loop-place
invariant-loop-place l = record {
  waiting : l.entries.items ≡ map (waiting_among l.index (take l.place (numbered l.sections))) l.index;
  total : sum_by length l.entries.items ≤ l.place;
  placed : first_some (unplaced_at l.index) (numbered l.sections) ≡ first_some (unplaced_at l.index) (drop l.place (numbered l.sections));
}
