use Rattle.std.proofs.Common.{◌∙◌, ◌<◌, None, Some, List, ap, sym, subst, length, arith}
use Rattle.std.specs.Prelude.{slice_get}
use Rattle.std.proofs.lemmas.Option.{slice_get-get_or}
use Rattle.mufom_names.specs.declared.name.Public.{Public}
use Rattle.mufom_image_values.specs.declared.surroundings.Evaluation.{Evaluation}
use Rattle.mufom_image_values.specs.Evaluated.{graph_edges, valuation_at, AreEvaluated}
use Rattle.mufom_image_values.proofs.Settled.{set-right, set-kept, set-evaluated}
use Rattle.mufom_image_values.proofs.values.PlacedModule.evaluate.Goals as goal

pub returns-then-can_evaluate-clause-right : goal.returns-then-can_evaluate-clause-right
returns-then-can_evaluate-clause-right c =
    let placed = c.args.self.now in
    let values = c.args.values.now.items in
    let n = c.args.position in
    let p = c.index-publics-position.result in
    let inside : n < length c.publics-publics.result.now = omega (arith, c.if-position-publics.false) in
    let at = ap (λ (ps : List Public). slice_get ps n) (sym c.publics-publics.ensures)
    ∙ slice_get-get_or c.publics-publics.result.now n p inside
    ∙ ap Some (sym c.index-publics-position.is) in
    let evaluated = subst (λ (vs : List Evaluation). AreEvaluated vs (graph_edges placed.graph n)) c.deref.ensures.value
    (c.can_evaluate.ensures.0 c.if-can_evaluate.true) in
    let valuation = c.valuation.ensures.value ∙ ap (λ (vs : List Evaluation). valuation_at placed vs None p.value) c.deref-then-can_evaluate.ensures.value in
    set-right placed c.requires.placed values c.requires.right n p at evaluated c.valuation.result valuation

pub returns-then-can_evaluate-clause-kept : goal.returns-then-can_evaluate-clause-kept
returns-then-can_evaluate-clause-kept c = set-kept c.args.self.now c.requires.placed c.args.values.now.items c.args.position c.valuation.result
    c.valuation.ensures.evaluated

pub returns-then-can_evaluate-clause-settled : goal.returns-then-can_evaluate-clause-settled
returns-then-can_evaluate-clause-settled c inside evaluated =
    set-evaluated c.args.self.now c.requires.placed c.args.values.now.items c.args.position c.valuation.result c.valuation.ensures.evaluated
