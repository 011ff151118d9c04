use Rattle.std.proofs.Common.{◌≡◌, take}
use Rattle.mufom_image.proofs.RoomLaws.{sections_for, asked_by}
use Rattle.mufom_image.proofs.commons.all_commons.Given as goal

-- the commons have room for the references so far
abbrev pub invariant-loop-place : goal.invariant-loop-place
invariant-loop-place l = l.commons.items ≡ sections_for (asked_by l.module (take l.place l.module.names.references))
