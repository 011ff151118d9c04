use Rattle.std.proofs.Common.{[], length, get_or, arith}
use Rattle.mufom_module.specs.Written.{shortest, parts}
use Rattle.mufom_write.proofs.Placing.{counted-alone, places-fit, part-within}
use Rattle.mufom_write.proofs.measure.part_length.Goals as goal

pub returns : goal.returns
returns c =
    let m = c.args.parts.now in
    let few = places-fit m c.requires.valid in
    let within = part-within (parts shortest m) c.args.number c.requires.inside in
    counted-alone c.part.new.out.bytes (length (get_or (parts shortest m) c.args.number [])) (omega (arith, few, within)) c.part.ensures.length
