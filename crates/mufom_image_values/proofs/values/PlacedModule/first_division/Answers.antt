use Rattle.std.proofs.Common.{◌≡◌, ◌∙◌, List, Some, None, ap, sym, length, arith}
use Rattle.std.specs.Prelude.{slice_get}
use Rattle.std.proofs.lemmas.Option.{slice_get-get_or, slice_get_within}
use Rattle.mufom_names.specs.declared.name.Public.{Public}
use Rattle.mufom_meaning.specs.Walk.{public_fact}
use Rattle.mufom_numbers.proofs.Choices.{some_same}
use Rattle.mufom_image_values.specs.Evaluated.{setting_of}
use Rattle.mufom_image_values.proofs.MentionLaws.{sit}
use Rattle.mufom_image_values.proofs.DivisionLaws.{fact-none, first-division-none, first-division-some}
use Rattle.mufom_image_values.proofs.TokenLoops.{below_more}
use Rattle.mufom_image_values.proofs.values.PlacedModule.first_division.Goals as goal

pub returns-then-has_division : goal.returns-then-has_division
returns-then-has_division c =
    let n = c.loop-position.position in
    let p = c.index-publics-position.result in
    let at = ap (λ (ps : List Public). slice_get ps n) (sym c.publics-publics.ensures)
    ∙ slice_get-get_or c.publics-publics.result.now n p c.loop-position-test.true
    ∙ ap Some (sym c.index-publics-position.is) in
    first-division-some c.args.self.now c.requires.placed c.args.values.now c.requires.values n p at c.loop-position.invariant
    (sym c.has_division.ensures ∙ c.if-has_division.true)

pub loop-position-preserved : goal.loop-position-preserved
loop-position-preserved c =
    let placed = c.args.self.now in
    let n = c.loop-position.position in
    let p = c.index-publics-position.result in
    let at = ap (λ (ps : List Public). slice_get ps n) (sym c.publics-publics.ensures)
    ∙ slice_get-get_or c.publics-publics.result.now n p c.loop-position-test.true
    ∙ ap Some (sym c.index-publics-position.is) in
    let fact = λ (q : Public). public_fact (setting_of placed) (sit placed.graph.parts.now q) in
    below_more (λ j. (q : Public) → slice_get placed.graph.parts.now.names.publics j ≡ Some q → fact q ≡ None) n c.loop-position.invariant
    (λ q e. ap fact (some_same q p (sym e ∙ at))
    ∙ fact-none placed c.requires.placed c.args.values.now c.requires.values p (sym c.has_division.ensures ∙ c.if-has_division.false))

pub returns : goal.returns
returns c =
    let placed = c.args.self.now in
    first-division-none placed c.requires.placed c.args.values.now c.requires.values
    (λ j q e.
    let inside = slice_get_within placed.graph.parts.now.names.publics j q e in
    c.loop-position.invariant j (omega (arith, inside, c.loop-position-test.false, ap length c.publics-publics.ensures)) q e)
