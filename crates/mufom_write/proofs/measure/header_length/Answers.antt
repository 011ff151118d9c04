use Rattle.std.proofs.Common.{length, sym, ◌∙◌, arith}
use Rattle.mufom_module.specs.Written as w
use Rattle.mufom_module.specs.Written.{shortest}
use Rattle.mufom_write.proofs.Placing.{counted-both, zeros, header-split, places-fit}
use Rattle.mufom_write.proofs.measure.header_length.Goals as goal

pub returns : goal.returns
returns c =
    let m = c.args.parts.now in
    let x = length (w.module_begin shortest m) in
    let y = length (w.each (w.offset_record shortest) zeros) in
    let split = header-split m in
    let few = places-fit m c.requires in
    let both = counted-both c.module_begin.new.out.bytes c.offset_records.new.out.bytes x y (omega (arith, split, few)) c.module_begin.ensures.length
    c.offset_records.ensures.length in
    both ∙ sym split
