use Rattle.std.proofs.Common.{◌∙◌, ap}
use Rattle.mufom_expr.specs.Numbers.{number_in}
use Rattle.mufom_expr.proofs.NumberLaws.{number-by_tokens}
use Rattle.mufom_expr.proofs.postfix.Postfix.number_or_zero.Goals as goal

pub returns : goal.returns
returns c = c.number_in.ensures ∙ ap number_in c.tokens.ensures.tokens ∙ number-by_tokens c.args.self.now
