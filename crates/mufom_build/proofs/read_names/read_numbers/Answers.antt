use Rattle.std.proofs.Common.{length, refl, sym, ap, ◌∙◌, arith, eqb-true}
use Rattle.mufom_build_text.proofs.FirstBytes.{no}
use Rattle.mufom_build.proofs.Numbers.{no_numbers, numbers_fit, number_more, numbers_read, too_many_read, no_number_read}
use Rattle.mufom_build.proofs.read_names.read_numbers.Goals as goal

pub loop-cursor-init : goal.loop-cursor-init
loop-cursor-init g c = record {
  numbers = no_numbers g.row.N _ _ c.new-numbers.ensures;
  within = let none = ap length c.new-numbers.ensures in omega (arith, none);
}

pub loop-cursor-preserved : goal.loop-cursor-preserved
loop-cursor-preserved g c = record {
  numbers = number_more c.number-number.result _ c.loop-cursor.invariant.numbers (c.loop-cursor-test.ensures.0 refl) c.words.ensures.reads
      c.number-number.ensures.reads c.push.ensures.items;
  within = numbers_fit _ _ _ _ c.if-is_full.ensures.value c.if-is_full.ensures.fits c.push.ensures.items;
}

pub loop-cursor-smaller : goal.loop-cursor-smaller
loop-cursor-smaller g c =
    let shorter = c.number-number.ensures.shorter (sym c.if-is_bad.ensures) in
    omega (arith, shorter, c.words.ensures.within)

pub returns-then-is_full : goal.returns-then-is_full
returns-then-is_full g c = record {
  reads = too_many_read c.number-number.result c.loop-cursor.invariant.numbers (eqb-true _ _ (sym c.if-is_full.ensures.value))
      (c.loop-cursor-test.ensures.0 refl) c.words.ensures.reads c.number-number.ensures.reads c.bad.ensures;
}

pub returns-then-is_bad : goal.returns-then-is_bad
returns-then-is_bad g c = record {
  reads = no_number_read c.number-number.result c.loop-cursor.invariant.numbers (c.loop-cursor-test.ensures.0 refl)
      c.words.ensures.reads c.number-number.ensures.reads (λ sound. no (sym sound ∙ sym c.if-is_bad.ensures));
}

pub returns : goal.returns
returns g c = record {
  reads = numbers_read c.loop-cursor.invariant.within c.loop-cursor.invariant.numbers (λ ahead. no (c.loop-cursor-test.ensures.1 ahead));
}
