use Rattle.std.proofs.Common.{ap, refl, ◌∙◌, ◌++◌, ◌∷◌, [], List}
use Rattle.mufom_sections.specs.declared.section.Section.{Section}
use Rattle.mufom_prune.specs.Pruned.{remaining}
use Rattle.mufom_prune.proofs.RemainLaws.{keep_step, skip_step}
use Rattle.mufom_prune.proofs.remaining.remaining_sections.Goals as goal
use Rattle.mufom_prune.proofs.remaining.remaining_sections.Goals.{then-marks-place+in_ok-copy_section+in_ok-push, else-marks-place}

pub loop-place-preserved : goal.loop-place-preserved
loop-place-preserved c =
    let marks = c.args.marks.now in
    let xs = c.args.sections.now in
    let i = c.loop-place.place in
    let rest = c.loop-place.rest in
    elim c.if-marks-place.branch [
      | then-marks-place+in_ok-copy_section+in_ok-push w ↦
          let x = w.index-sections-place.result in
          keep_step (λ (x : Section). x) (λ (ys : List Section). ys) (λ x ys. refl) marks xs i x rest c.if-marks-place.rest (remaining marks xs)
          c.loop-place-test.true c.requires w.if-marks-place.true
          (w.rest-is ∙ w.in_ok-push.ensures.ok ∙ ap (λ y. rest ++ y ∷ []) (w.in_ok-copy_section.ensures ∙ w.index-sections-place.is)) c.loop-place.invariant
      | else-marks-place w ↦
          skip_step (λ (ys : List Section). ys) marks xs i rest c.if-marks-place.rest (remaining marks xs) c.loop-place-test.true c.requires
          w.if-marks-place.false w.rest-is c.loop-place.invariant
    ]
