use Rattle.std.proofs.Common.{◌∙◌, ap, arith}
use Rattle.mufom_loads.specs.Lengths.{lengths_once}
use Rattle.mufom_module.specs.declared.module.Parts.{Parts}
use Rattle.mufom_module.proofs.Valid.{weighs_less}
use Rattle.mufom_image.proofs.names.check_limit.Goals as goal

pub loaded_bytes-count-requires : goal.loaded_bytes-count-requires
loaded_bytes-count-requires c =
    let m = c.args.module.now in
    let short = c.items_are_within_the_weight.ensures m c.parts.ensures.valid in
    let light = weighs_less m c.parts.ensures.valid in
    let same = ap lengths_once c.as_slice.ensures ∙ ap (λ (x : Parts). lengths_once x.loads) c.parts.ensures.same in
    omega (arith, short, light, same)
