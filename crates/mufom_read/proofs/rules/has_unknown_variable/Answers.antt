use Rattle.std.proofs.Common.{[], ◌∷◌, ◌∙◌, ap}
use Rattle.std.specs.List.{list_any}
use Rattle.mufom_expr.specs.declared.token.Token.{Token}
use Rattle.mufom_expr.specs.Mentions.{variables_in}
use Rattle.mufom_read.specs.Kept.{is_unknown}
use Rattle.mufom_module.proofs.Variables.{any-variables_of}
use Rattle.mufom_read.proofs.rules.has_unknown_variable.Goals as goal

pub returns : goal.returns
returns c =
    let test = λ (t : Token). list_any (is_unknown c.args.tables.now) (variables_in (t ∷ [])) in
    c.tokens_are_unknown.ensures ∙ ap (list_any test) c.tokens.ensures.tokens ∙ any-variables_of (is_unknown c.args.tables.now) c.args.tree.now
