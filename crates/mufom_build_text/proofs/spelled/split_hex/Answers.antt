use Rattle.std.proofs.Common.{ℕ, List, sym, subst, arith}
use Rattle.mufom_build_text.specs.Reads.{IsDigitsFront}
use Rattle.mufom_build_text.proofs.Fronts.{digit_more}
use Rattle.mufom_build_text.proofs.Names.{all_digits_left, digits_begun, less_digits_left, no_digits_left}
use Rattle.mufom_build_text.proofs.spelled.split_hex.Goals as goal

pub loop-byte-init : goal.loop-byte-init
loop-byte-init c = record {
  front = digits_begun c.new-bytes.result.items c.args.text.now c.new-bytes.ensures.items;
  left = all_digits_left c.new-bytes.result.items c.args.text.now c.new-bytes.ensures.items;
  within = omega arith;
}

pub loop-byte-preserved : goal.loop-byte-preserved
loop-byte-preserved c =
    let (high, low, is, are) = c.in-Some.ensures.front in
    record {
      front = subst (λ (bytes : List ℕ). IsDigitsFront bytes c.args.text.now c.in-Some.after.now) (sym c.in_ok-push.ensures.items)
          (digit_more c.loop-byte.bytes.items c.in-Some.byte high low _ c.loop-byte.rest.now _ c.loop-byte.invariant.front is are);
      left = less_digits_left c.loop-byte.bytes.items _ c.in-Some.byte high low c.args.text.now c.loop-byte.rest.now c.in-Some.after.now
          c.loop-byte.invariant.left c.in_ok-push.ensures.items is are;
      within = omega (arith, c.in-Some.ensures.within);
    }

pub returns-clause-takes : goal.returns-clause-takes
returns-clause-takes c = no_digits_left c.loop-byte.bytes.items c.args.text.now c.loop-byte.rest.now c.loop-byte.invariant.left
    (λ b high low after is are. c.in_default.ensures.takes b high low after is are)
