use Rattle.mufom_locating.proofs.EndLaws.{AreWalked}
use Rattle.mufom_locating.proofs.ends.ends_with_copies.Given as goal

-- the copies of the regions so far are placed
abbrev pub invariant-loop-place : goal.invariant-loop-place
invariant-loop-place l = AreWalked l.regions l.plain l.placings l.loaded l.place l.ends.items
