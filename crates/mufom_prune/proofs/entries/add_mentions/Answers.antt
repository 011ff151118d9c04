use Rattle.std.proofs.Common.{ap, ◌∙◌, ◌++◌, flat_map, option_to_list}
use Rattle.mufom_expr.specs.Mentions.{variables_in}
use Rattle.mufom_expr.proofs.Variables.{variables_in-tokens_of}
use Rattle.mufom_prune.specs.Kept.{entry_of}
use Rattle.mufom_prune.proofs.entries.add_mentions.Goals as goal

pub loop-token-init : goal.loop-token-init
loop-token-init c =
    ap (λ vs. c.args.all.now ++ flat_map (λ v. option_to_list (entry_of c.args.parts.now v)) vs)
    (ap variables_in c.tokens-token-items.ensures.tokens ∙ variables_in-tokens_of c.args.value.now)
