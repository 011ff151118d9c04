use Rattle.std.proofs.Common.{◌≡◌, ◌++◌, drop, All}
use Rattle.mufom_place.specs.Copies.{copies_from}
use Rattle.mufom_place.specs.Filling.{IsPlaceableCopy}
use Rattle.mufom_place.proofs.copied.copies_to.Given as goal

abbrev pub invariant-loop-place : goal.invariant-loop-place
invariant-loop-place l = record {
  copies : l.copies ++ copies_from l.regions l.placed l.loaded l.place (drop l.place l.regions) ≡ copies_from l.regions l.placed l.loaded 0 l.regions;
  placeable : All (IsPlaceableCopy l.regions) l.copies;
}
