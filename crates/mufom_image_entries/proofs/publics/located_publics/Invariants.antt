use Rattle.std.proofs.Common.{◌≡◌, map, take}
use Rattle.mufom_image_entries.specs.Valued.{parts_of, valued_public}
use Rattle.mufom_image_entries.proofs.publics.located_publics.Given as goal

-- the publics so far with their values
abbrev pub invariant-loop-public : goal.invariant-loop-public
invariant-loop-public l = l.all ≡ map (valued_public l.valued) (take l.public-index (parts_of l.valued).names.publics)
