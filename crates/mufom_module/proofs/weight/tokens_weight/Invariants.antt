use Rattle.std.proofs.Common.{◌≡◌, take, sum_by}
use Rattle.mufom_module.specs.Weights.{capped, token_weight}
use Rattle.mufom_module.proofs.weight.tokens_weight.Given as goal

abbrev pub invariant-loop-token : goal.invariant-loop-token
invariant-loop-token l = l.total ≡ capped (sum_by token_weight (take l.token-index l.tokens))
