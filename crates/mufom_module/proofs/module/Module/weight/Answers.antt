use Rattle.std.proofs.Common.{◌≡◌, ◌<◌, ◌^◌, ap, ◌∙◌, sym, arith}
use Rattle.mufom_module.specs.Written.{weight}
use Rattle.mufom_module.specs.Weights.{capped}
use Rattle.mufom_module.proofs.WeightLaws.{weight-sum}
use Rattle.mufom_module.proofs.Valid.{weighs_less}
use Rattle.mufom_module.proofs.module.Module.weight.Goals as goal

pub returns : goal.returns
returns c =
    let parts = c.self.inside.parts in
    let whole : c.module_weight.result ≡ capped (weight parts) = c.module_weight.ensures ∙ ap capped (sym (weight-sum parts)) in
    let less : weight parts < 2 ^ 32 = weighs_less parts c.self.invariant.0 in
    rw (← c.self.view_is) (record { value = omega (arith, whole, less); bound = omega (arith, whole, less) })
