use Rattle.std.proofs.Common.{◌<◌, [], length, sym, arith}
use Rattle.std.proofs.lemmas.List.{get_or-map, length-map}
use Rattle.mufom_text.specs.Addresses.{address_seen, all_seen}
use Rattle.mufom_text.specs.Image.{address_text, value_of}
use Rattle.mufom_text.proofs.Loops.{each-step}
use Rattle.mufom_text.proofs.image.debug_lines.Goals as goal

pub loop-position-preserved : goal.loop-position-preserved
loop-position-preserved g c =
    let all = c.args.addresses.now in
    let i = c.loop-position.position in
    let count = length-map all address_seen in
    let inside : i < length (all_seen all) = omega (arith, count, c.loop-position-test.true) in
    each-step g.K.Output.takes g.met.K.Output.joins (address_text c.args.maus) (all_seen all) i (0, value_of []) _ _ _ _ inside
    (sym (get_or-map address_seen all i _ (0, value_of []) c.loop-position-test.true)) c.loop-position.invariant c.debug_line.ensures
