use Rattle.std.proofs.Common.{ap, ◌∙◌, []}
use Rattle.mufom_names.specs.Index.{with_entry}
use Rattle.mufom_prune.specs.Steps.{with_remaining}
use Rattle.mufom_prune.proofs.RemainLaws.{index_keep, index_skip}
use Rattle.mufom_prune.proofs.remaining.index_remaining.Goals as goal
use Rattle.mufom_prune.proofs.remaining.index_remaining.Goals.{then-marks-place+in_ok-_known, else-marks-place}

pub loop-place-preserved : goal.loop-place-preserved
loop-place-preserved c =
    let marks = c.args.marks.now in
    let xs = c.args.references.now in
    let i = c.loop-place.place in
    let index = c.loop-place.index in
    elim c.if-marks-place.branch [
      | then-marks-place+in_ok-_known w ↦
          index_keep marks xs i w.index-references-place.result index c.if-marks-place.index (with_remaining [] marks xs) c.loop-place-test.true
          c.requires w.if-marks-place.true
          (w.index-is ∙ w.in_ok-_known.ensures.after ∙ ap (λ name. with_entry index name 0) w.as_slice.ensures)
          c.loop-place.invariant
      | else-marks-place w ↦
          index_skip marks xs i index c.if-marks-place.index (with_remaining [] marks xs) c.loop-place-test.true c.requires w.if-marks-place.false
          w.index-is c.loop-place.invariant
    ]
