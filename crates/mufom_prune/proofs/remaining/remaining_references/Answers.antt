use Rattle.std.proofs.Common.{ap, refl, ◌∙◌, ◌++◌, ◌∷◌, [], List}
use Rattle.mufom_names.specs.declared.name.Reference.{Reference}
use Rattle.mufom_prune.specs.Pruned.{remaining}
use Rattle.mufom_prune.proofs.RemainLaws.{keep_step, skip_step}
use Rattle.mufom_prune.proofs.remaining.remaining_references.Goals as goal
use Rattle.mufom_prune.proofs.remaining.remaining_references.Goals.{then-marks-place+in_ok-copy_reference+in_ok-push, else-marks-place}

pub loop-place-preserved : goal.loop-place-preserved
loop-place-preserved c =
    let marks = c.args.marks.now in
    let xs = c.args.references.now in
    let i = c.loop-place.place in
    let rest = c.loop-place.rest in
    elim c.if-marks-place.branch [
      | then-marks-place+in_ok-copy_reference+in_ok-push w ↦
          let x = w.index-references-place.result in
          keep_step (λ (x : Reference). x) (λ (ys : List Reference). ys) (λ x ys. refl) marks xs i x rest c.if-marks-place.rest (remaining marks xs)
          c.loop-place-test.true c.requires w.if-marks-place.true
          (w.rest-is ∙ w.in_ok-push.ensures.ok ∙ ap (λ y. rest ++ y ∷ []) (w.in_ok-copy_reference.ensures ∙ w.index-references-place.is)) c.loop-place.invariant
      | else-marks-place w ↦
          skip_step (λ (ys : List Reference). ys) marks xs i rest c.if-marks-place.rest (remaining marks xs) c.loop-place-test.true c.requires
          w.if-marks-place.false w.rest-is c.loop-place.invariant
    ]
