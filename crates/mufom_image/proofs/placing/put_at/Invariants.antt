use Rattle.std.proofs.Common.{◌≡◌}
use Rattle.mufom_meaning.specs.Location.{placed_section}
use Rattle.mufom_image.proofs.PlacedLaws.{made_until}
use Rattle.mufom_image.proofs.placing.put_at.Given as goal

-- the sections so far are placed
abbrev pub invariant-loop-place : goal.invariant-loop-place
invariant-loop-place l = l.sections ≡ made_until (placed_section l.bases) 0 l.fn.sections l.place
