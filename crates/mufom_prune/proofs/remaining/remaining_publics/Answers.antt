use Rattle.std.proofs.Common.{ap, refl, ◌∙◌, ◌++◌, ◌∷◌, [], map}
use Rattle.mufom_prune.specs.Pruned.{remaining, new_public}
use Rattle.mufom_prune.proofs.RemainLaws.{keep_step, skip_step}
use Rattle.mufom_prune.proofs.remaining.remaining_publics.Goals as goal
use Rattle.mufom_prune.proofs.remaining.remaining_publics.Goals.{then-marks-place+in_ok-move_public+in_ok-push, else-marks-place}

pub loop-place-preserved : goal.loop-place-preserved
loop-place-preserved c =
    let marks = c.args.marks.now in
    let xs = c.args.publics.now in
    let i = c.loop-place.place in
    let rest = c.loop-place.rest in
    let f = new_public c.args.positions.now in
    elim c.if-marks-place.branch [
      | then-marks-place+in_ok-move_public+in_ok-push w ↦
          let x = w.index-publics-place.result in
          keep_step f (map f) (λ x ys. refl) marks xs i x rest c.if-marks-place.rest (map f (remaining marks xs)) c.loop-place-test.true c.requires
          w.if-marks-place.true
          (w.rest-is ∙ w.in_ok-push.ensures.ok ∙ ap (λ y. rest ++ y ∷ []) (w.in_ok-move_public.ensures ∙ ap f w.index-publics-place.is)) c.loop-place.invariant
      | else-marks-place w ↦
          skip_step (map f) marks xs i rest c.if-marks-place.rest (map f (remaining marks xs)) c.loop-place-test.true c.requires
          w.if-marks-place.false w.rest-is c.loop-place.invariant
    ]
