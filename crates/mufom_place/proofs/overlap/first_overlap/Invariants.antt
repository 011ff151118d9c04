use Rattle.std.proofs.Common.{◌≡◌, length}
use Rattle.mufom_place.specs.Facts.{first_overlap as overlap_of}
use Rattle.mufom_place.proofs.overlap.first_overlap.Given as goal

abbrev pub invariant-loop-rest : goal.invariant-loop-rest
invariant-loop-rest l = overlap_of l.extents ≡ overlap_of l.rest

abbrev pub decreases-loop-rest : goal.decreases-loop-rest
decreases-loop-rest l = length l.rest
