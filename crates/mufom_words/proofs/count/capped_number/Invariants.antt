use Rattle.std.proofs.Common.{◌≡◌, ◌+◌, ◌-◌, ◌≤◌, drop, map}
use Rattle.std.specs.Prelude.{min}
use Rattle.std.specs.Int.Digits.{number_from_digits_after}
use Rattle.mufom_words.specs.Operands.{decimal_number}
use Rattle.mufom_numbers.specs.declared.limits.TheConstants.{MOST_MODULES}
use Rattle.mufom_words.proofs.count.capped_number.Given as goal

abbrev pub invariant-loop-digit : goal.invariant-loop-digit
invariant-loop-digit l = record {
  rest : min (MOST_MODULES + 1) (number_from_digits_after 10 l.number (map (λ b. b - 48) (drop l.digit-index l.digits)))
      ≡ min (MOST_MODULES + 1) (decimal_number l.digits);
  bound : l.number ≤ MOST_MODULES + 1;
}
