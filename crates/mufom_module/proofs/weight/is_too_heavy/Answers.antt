use Rattle.std.proofs.Common.{◌≡◌, ap, ◌∙◌, sym, arith}
use Rattle.mufom_module.specs.Written.{weight}
use Rattle.mufom_module.specs.Weights.{capped}
use Rattle.mufom_module.proofs.WeightLaws.{weight-sum}
use Rattle.mufom_module.proofs.weight.is_too_heavy.Goals as goal

pub returns : goal.returns
returns c =
    let whole : c.module_weight.result ≡ capped (weight c.args.parts.now) = c.module_weight.ensures ∙ ap capped (sym (weight-sum c.args.parts.now)) in
    grind (arith, whole)
