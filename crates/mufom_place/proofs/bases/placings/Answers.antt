use Rattle.std.proofs.Common.{◌+◌, ◌-◌, arith}
use Rattle.mufom_place.proofs.PackingLemmas.{sum_by-part}
use Rattle.mufom_place.proofs.bases.placings.Goals as goal

pub pack_region-requires-clause-room : goal.pack_region-requires-clause-room
pack_region-requires-clause-room c =
    let part = sum_by-part c.args.entries.now c.loop-place.start (c.loop-place.start + c.len.result - c.loop-place.start) in let room =
    c.requires.room in let few = c.commons_of.ensures.bound in omega (arith, part, room, few)
