use Rattle.std.proofs.Common.{◌≡◌, ◌++◌, drop}
use Rattle.mufom_place.specs.Bases.{numbered}
use Rattle.mufom_place.specs.Facts.{extents as extents_of}
use Rattle.mufom_place.proofs.overlap.extents.Given as goal

abbrev pub invariant-loop-place : goal.invariant-loop-place
invariant-loop-place l = extents_of (numbered l.sections) l.bases ≡ l.extents.items ++ extents_of (drop l.place (numbered l.sections)) (drop l.place l.bases)
