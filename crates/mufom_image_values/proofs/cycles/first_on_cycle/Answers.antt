use Rattle.std.proofs.Common.{◌∙◌, ◌<◌, ℕ, List, Option, Some, ap, sym, subst, length, arith}
use Rattle.std.specs.Prelude.{option_map, option_and_then, slice_get}
use Rattle.std.proofs.lemmas.Option.{slice_get-get_or}
use Rattle.mufom_names.specs.declared.name.Public.{Public}
use Rattle.mufom_meaning.specs.Facts.{cycle}
use Rattle.mufom_image_values.specs.Graph.{edges}
use Rattle.mufom_image_values.specs.Circles.{IsFirstOnCircle}
use Rattle.mufom_image_values.proofs.CircleLaws.{named-first, graph-closed}
use Rattle.mufom_image_values.proofs.CountLaws.{few-publics}
use Rattle.mufom_image_values.proofs.cycles.first_on_cycle.Goals as goal

pub first_on_circle-requires-clause-few : goal.first_on_circle-requires-clause-few
first_on_circle-requires-clause-few c = few-publics c.args.graph.now.parts.now c.requires.valid

pub first_on_circle-requires-clause-closed : goal.first_on_circle-requires-clause-closed
first_on_circle-requires-clause-closed c = graph-closed c.args.graph.now c.requires

pub returns-in-Some : goal.returns-in-Some
returns-in-Some c =
    let publics = c.args.graph.now.parts.now.names.publics in
    let steps = edges c.args.graph.now.resolutions.now publics in
    let n = c.in-Some.position in
    let p = c.index-publics-position.result in
    let first = subst (IsFirstOnCircle steps (length publics)) c.in-Some.is c.in_ok-position.ensures in
    let inside : n < length c.publics.result.now = omega (arith, first.0, ap length c.publics.ensures) in
    let at = ap (λ (ps : List Public). slice_get ps n) (sym c.publics.ensures) ∙ slice_get-get_or c.publics.result.now n p inside
    ∙ ap Some (sym c.index-publics-position.is) in
    named-first c.args.graph.now c.requires c.in_ok-position.field-0 c.in_ok-position.ensures
    ∙ ap (λ (first : Option ℕ). option_map (λ (p : Public). cycle p.name) (option_and_then (slice_get publics) first)) c.in-Some.is
    ∙ ap (option_map (λ (p : Public). cycle p.name)) at

pub returns-in-None : goal.returns-in-None
returns-in-None c =
    named-first c.args.graph.now c.requires c.in_ok-position.field-0 c.in_ok-position.ensures
    ∙ ap (λ (first : Option ℕ). option_map (λ (p : Public). cycle p.name)
    (option_and_then (slice_get c.args.graph.now.parts.now.names.publics) first)) c.in-None.is
