use Rattle.std.proofs.Common.{◌∙◌, ap, refl, sym}
use Rattle.std.specs.List.{list_all}
use Rattle.mufom_expr.specs.declared.token.Token.{Token}
use Rattle.mufom_image_values.specs.Graph.{mentioned_in, tokens_at}
use Rattle.mufom_image_values.specs.Evaluated.{is_ready, graph_edges}
use Rattle.mufom_image_values.proofs.TokenLoops.{all-mentions, ready-evaluated, evaluated-ready}
use Rattle.mufom_image_values.proofs.values.PlacedModule.can_evaluate.Goals as goal

pub returns : goal.returns
returns c =
    let graph = c.args.self.now.graph in
    let values = c.args.values.now in
    let same =
    c.all_ready.ensures
    ∙ ap (list_all (λ (token : Token). is_ready values (mentioned_in graph.resolutions.now token))) c.tokens.ensures.tokens
    ∙ all-mentions graph.resolutions.now (is_ready values) refl (tokens_at graph.parts.now.names.publics c.args.position) in (
      λ e. ready-evaluated values (graph_edges graph c.args.position) (sym same ∙ e),
      λ h. same ∙ evaluated-ready values (graph_edges graph c.args.position) h,
    )
