use Rattle.std.proofs.Common.{◌+◌, drop, get_or, refl}
use Rattle.mufom_module.specs.Written.{shortest, each_from, offset_record}
use Rattle.mufom_write.proofs.Loops.{each_next, leads-step, leads-stop}
use Rattle.mufom_write.proofs.parts.offset_records.Goals as goal

pub loop-part-preserved : goal.loop-part-preserved
loop-part-preserved g c =
    let write = offset_record shortest in
    let i = c.loop-part.part in
    let all = c.args.offsets.now in
    let x = get_or all i 0 in
    let next = each_next write i all i 0 x c.loop-part-test.true refl in
    leads-step g.K.Output.takes g.met.K.Output.joins _ _ _ (write i x) (each_from (i + 1) write (drop (i + 1) all)) _ _ next c.loop-part.invariant
    c.in_ok-offset_record.ensures

pub returns-in_err-offset_record : goal.returns-in_err-offset_record
returns-in_err-offset_record g c =
    let write = offset_record shortest in
    let i = c.loop-part.part in
    let all = c.args.offsets.now in
    let x = get_or all i 0 in
    let next = each_next write i all i 0 x c.loop-part-test.true refl in
    leads-stop g.K.Output.takes g.met.K.Output.stops _ _ _ (write i x) (each_from (i + 1) write (drop (i + 1) all)) _ _ _ _ next c.loop-part.invariant
    c.in_err-offset_record.ensures c.from_residual.ensures.0
