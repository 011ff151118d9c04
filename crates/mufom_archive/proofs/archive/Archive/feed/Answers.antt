use Rattle.std.proofs.Common.{sym, ◌≡◌, ◌∙◌, ◌-◌, ◌≤◌, ◌++◌, refl, ap, take, drop, length, length-drop, append_assoc, arith}
use Rattle.std.proofs.lemmas.List.{take_rest}
use Rattle.std.proofs.Math.Seq.{take-add}
use Rattle.mufom_archive.proofs.StepLaws.{known_as}
use Rattle.mufom_archive.proofs.archive.Archive.feed.Goals as goal

pub loop-taken-preserved : goal.loop-taken-preserved
loop-taken-preserved c =
    let step = c.in_ok-taken.ensures in
    let n = c.in_ok-taken.field-0 in
    let taken = c.loop-taken.taken in
    let chunk = c.args.chunk.now in
    let inside : taken ≤ length chunk = c.loop-taken.invariant.within in
    let rest : take (length chunk - taken) (drop taken chunk) ≡ drop taken chunk = take_rest chunk taken in
    record {
      within = omega (arith, step.count.1, ap length rest, length-drop taken chunk);
      counted = omega (arith, step.length, c.loop-taken.invariant.counted);
      read = λ stream k.
          let more = step.read (stream ++ take taken chunk) (c.loop-taken.invariant.read stream k) in
          known_as more (append_assoc stream (take taken chunk) _ ∙ ap (λ l. stream ++ l) (ap (λ l. take taken chunk ++ take n l) rest
          ∙ sym (take-add taken n chunk)))
          refl refl refl refl refl refl;
    }
