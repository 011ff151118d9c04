use Rattle.std.proofs.Common.{take}
use Rattle.mufom_place.specs.Filling.{AreFilled, AreLowEnds}
use Rattle.mufom_place.proofs.copies.filled_to.Given as goal

abbrev pub invariant-loop-placing : goal.invariant-loop-placing
invariant-loop-placing l = record {
  filled : AreFilled l.regions l.sections (take l.placing-index l.placings) l.ends.items;
  low : AreLowEnds 0 l.ends.items;
}
