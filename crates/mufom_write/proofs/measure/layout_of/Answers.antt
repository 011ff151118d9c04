use Rattle.std.proofs.Common.{◌≡◌, ℕ, List, ◌<◌, ◌==◌, ◌^◌, cond, length, drop, subst, sym, ap, ◌∙◌, arith, length-set}
use Rattle.std.specs.Prelude.{All}
use Rattle.std.proofs.lemmas.List.{drop_all}
use Rattle.mufom_debug.specs.Marks.{joined}
use Rattle.mufom_module.specs.Written.{shortest, parts, offsets, header_length}
use Rattle.mufom_write.proofs.Placing.{places-fit, written-length, next-length, place-step, place-last, place-empty, place-full, offsets-fit}
use Rattle.mufom_write.proofs.measure.layout_of.Goals.{then-length-eq0, else-length-eq0}
use Rattle.mufom_write.proofs.measure.layout_of.Goals as goal

pub overflow_add-at : goal.overflow_add-at
overflow_add-at c =
    let m = c.args.parts.now in
    let few = places-fit m c.requires in
    let next = next-length (parts shortest m) c.loop-number.number c.loop-number-test.true in
    omega (arith, few, next, c.loop-number.invariant.at, c.part_length-length.ensures)

pub loop-number-preserved : goal.loop-number-preserved
loop-number-preserved c =
    let m = c.args.parts.now in
    let i = c.loop-number.number in
    let len = c.part_length-length.result in
    let next = next-length (parts shortest m) i c.loop-number-test.true in
    let place : c.if-length-eq0.offsets ≡ cond (len == 0) 0 c.loop-number.at =
    elim c.if-length-eq0.branch [
      | then-length-eq0 w ↦ place-empty _ _ _ w.if-length-eq0.true w.offsets-is
      | else-length-eq0 w ↦
          place-full _ _ _ w.if-length-eq0.false w.offsets-is
    ] in
    record {
      size = length-set c.loop-number.offsets i c.if-length-eq0.offsets ∙ c.loop-number.invariant.size;
      offsets = place-step c.loop-number.at i c.if-length-eq0.offsets len (parts shortest m) c.loop-number.offsets (offsets shortest m)
          c.loop-number-test.true (omega (arith, c.loop-number.invariant.size, c.loop-number-test.true)) c.part_length-length.ensures place
          c.loop-number.invariant.offsets;
      at = omega (arith, next, c.loop-number.invariant.at, c.part_length-length.ensures);
    }

pub overflow_add-result : goal.overflow_add-result
overflow_add-result c =
    let few = places-fit c.args.parts.now c.requires in
    omega (arith, few, c.loop-number.invariant.at)

pub returns-clause-offsets : goal.returns-clause-offsets
returns-clause-offsets c =
    let m = c.args.parts.now in
    let seven : c.loop-number.number ≡ 7 = omega (arith, c.loop-number-test.false, c.loop-number.auto.number-end) in
    place-last c.loop-number.at 7 (parts shortest m) c.loop-number.offsets (offsets shortest m) (omega arith) c.loop-number.invariant.size
    (rw seven at c.loop-number.invariant.offsets)

pub returns-clause-length : goal.returns-clause-length
returns-clause-length c =
    let m = c.args.parts.now in
    let ends : length (joined (drop c.loop-number.number (parts shortest m))) ≡ 0 =
    ap (λ (l : List (List ℕ)). length (joined l)) (drop_all c.loop-number.number (parts shortest m) c.loop-number-test.false) in
    let whole = written-length m in
    omega (arith, ends, whole, c.loop-number.invariant.at)

pub returns-clause-fits : goal.returns-clause-fits
returns-clause-fits c =
    let m = c.args.parts.now in
    let few = places-fit m c.requires in
    let seven : c.loop-number.number ≡ 7 = omega (arith, c.loop-number-test.false, c.loop-number.auto.number-end) in
    let all = place-last c.loop-number.at 7 (parts shortest m) c.loop-number.offsets (offsets shortest m) (omega arith) c.loop-number.invariant.size
    (rw seven at c.loop-number.invariant.offsets) in
    subst (λ (l : List ℕ). All (λ offset. offset < 2 ^ 32) l) (sym all) (offsets-fit (header_length shortest m) (parts shortest m) (omega (arith, few)))
