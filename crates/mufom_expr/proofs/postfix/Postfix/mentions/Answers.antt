use Rattle.std.proofs.Common.{ap, ◌∙◌}
use Rattle.mufom_expr.specs.Mentions.{variables_in}
use Rattle.mufom_expr.proofs.Variables.{variables_in-tokens_of}
use Rattle.mufom_expr.proofs.postfix.Postfix.mentions.Goals as goal

pub returns-clause-tree : goal.returns-clause-tree
returns-clause-tree c = c.of.ensures ∙ ap variables_in c.tokens.ensures.tokens ∙ variables_in-tokens_of c.args.self.now
