use Rattle.std.proofs.Common.{ap, sym, ◌∙◌, ◌++◌, ◌∷◌, [], take, false, if◌then◌else◌}
use Rattle.mufom_select.specs.Choice.{positions_from}
use Rattle.mufom_select.proofs.ChoiceLaws.{positions-more}
use Rattle.mufom_select.proofs.choosing.positions.Goals as goal
use Rattle.mufom_select.proofs.choosing.positions.Goals.{then-marks-position+in_ok-push, else-marks-position}

pub loop-position-preserved : goal.loop-position-preserved
loop-position-preserved c =
    let marks = c.args.marks.now in
    let place = c.loop-position.position in
    let before = positions_from 0 (take place marks) in
    elim c.if-marks-position.branch [
      | then-marks-position+in_ok-push w ↦
          w.positions-is ∙ w.in_ok-push.ensures.ok ∙ ap (λ ps. ps ++ place ∷ []) c.loop-position.invariant
          ∙ sym (positions-more marks place false c.loop-position-test.true ∙ ap (λ b. if b then before ++ place ∷ [] else before) w.if-marks-position.true)
      | else-marks-position w ↦
          w.positions-is ∙ c.loop-position.invariant
          ∙ sym (positions-more marks place false c.loop-position-test.true ∙ ap (λ b. if b then before ++ place ∷ [] else before) w.if-marks-position.false)
    ]
