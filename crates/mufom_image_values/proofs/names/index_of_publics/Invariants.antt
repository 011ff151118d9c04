use Rattle.std.proofs.Common.{take}
use Rattle.mufom_names.specs.Names.{names_of}
use Rattle.mufom_image_values.specs.Names.{FindsFirst}
use Rattle.mufom_image_values.proofs.names.index_of_publics.Given as goal

-- the index finds the names of the publics so far
abbrev pub invariant-loop-place : goal.invariant-loop-place
invariant-loop-place l = FindsFirst l.index (names_of (take l.place l.publics))
