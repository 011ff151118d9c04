use Rattle.std.proofs.Common.{take}
use Rattle.mufom_place.specs.Filling.{AreMarked}
use Rattle.mufom_locating.proofs.ends.regions_placing.Given as goal

abbrev pub invariant-loop-placing : goal.invariant-loop-placing
invariant-loop-placing l = AreMarked l.count (take l.placing-index l.placings) l.marks.items
