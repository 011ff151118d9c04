use Rattle.std.proofs.Common.{take, drop, refl, ◌∙◌, ap, arith}
use Rattle.mufom_image_bytes.specs.Spread.{bytes_of_chunks}
use Rattle.mufom_image_bytes.proofs.SpreadLaws.{next_row}
use Rattle.mufom_image_bytes.proofs.runs.maximal_runs.Goals as goal

pub loop-rest-preserved : goal.loop-rest-preserved
loop-rest-preserved c =
    let rest = c.loop-rest.rest.now in
    rw (c.in_ok-push.ensures.ok)
    (next_row c.args.bytes.now c.args.chunks.now rest c.split_at.result.1.now c.loop-rest.runs _ (record { address = 0; start = 0; count = 0 })
    c.loop-rest.invariant
    (omega arith) refl
    (c.in_ok-run_bytes.ensures ∙ ap (bytes_of_chunks c.args.bytes.now) (c.split_at.ensures.front ∙ ap (λ n. take n rest) c.run_length.ensures.count))
    (c.split_at.ensures.back ∙ ap (λ n. drop n rest) c.run_length.ensures.count))
