use Rattle.std.proofs.Common.{◌≡◌, map, take, drop}
use Rattle.mufom_read.specs.Kept.{indexes_by}
use Rattle.mufom_read.specs.NamesSoFar.{placed_public}
use Rattle.mufom_read.proofs.publics.place_all.Given as goal

-- the publics before this one have positions, and the others are as they were
abbrev pub invariant-loop-public : goal.invariant-loop-public
invariant-loop-public l = (take l.public-index l.public-items ≡ map (placed_public (indexes_by l.tables)) (take l.public-index l.fn.publics.items))
    × (drop l.public-index l.public-items ≡ drop l.public-index l.fn.publics.items)
