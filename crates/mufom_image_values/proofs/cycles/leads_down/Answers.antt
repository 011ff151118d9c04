use Rattle.std.proofs.Common.{◌∙◌, ℕ, ap, refl}
use Rattle.std.specs.List.{list_all}
use Rattle.mufom_expr.specs.declared.token.Token.{Token}
use Rattle.mufom_image_values.specs.Graph.{mentioned_in, tokens_at}
use Rattle.mufom_image_values.specs.Circles.{number_at, is_down}
use Rattle.mufom_image_values.proofs.TokenLoops.{all-mentions}
use Rattle.mufom_image_values.proofs.cycles.leads_down.Goals as goal

pub returns : goal.returns
returns c =
    let met = c.args.graph.now.resolutions.now in
    let number = number_at c.args.numbers.now in
    let down = λ (own : ℕ) (token : Token). is_down number own c.args.strictly (mentioned_in met token) in
    c.all_down.ensures
    ∙ ap (λ own. list_all (down own) c.tokens.result.now) c.number_of-own.ensures
    ∙ ap (list_all (down (number c.args.position))) c.tokens.ensures.tokens
    ∙ all-mentions met (is_down number (number c.args.position) c.args.strictly) refl (tokens_at c.args.graph.now.parts.now.names.publics c.args.position)
