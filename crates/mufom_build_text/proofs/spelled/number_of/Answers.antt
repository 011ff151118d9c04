use Rattle.std.proofs.Common.{◌≡◌, ℕ, ◌+◌, ◌*◌, ◌-◌, ◌/◌, ◌<◌, ◌≤◌, List, length, take, get_or, ap, ◌∙◌, arith}
use Rattle.std.specs.Str.Parse.{AllDigits, digits_value}
use Rattle.std.specs.Char.{digit_value}
use Rattle.std.proofs.lemmas.Int.Digits.{digits_value_more}
use Rattle.std.proofs.lemmas.Str.{digit_value_digit}
use Rattle.std.proofs.lemmas.Str.Parse.{digit_at, digits_value-take-le}
use Rattle.mufom_build_text.proofs.spelled.number_of.Goals as goal

next_value : (digits : List ℕ) (i number : ℕ) → AllDigits 10 digits → i < length digits → digits_value 10 (take i digits) ≡ number
    → digits_value 10 (take (i + 1) digits) ≡ number * 10 + (get_or digits i 0 - 48)
next_value digits i number all small same =
    let b = get_or digits i 0 in
    let value = digit_value_digit b (digit_at digits i all small) in
    let digit : digit_value b ≡ b - 48 = omega (arith, value) in
    digits_value_more 10 digits i small ∙ ap (λ n. n * 10 + digit_value b) same ∙ ap (λ d. number * 10 + d) digit

too_great : (number digit all : ℕ) → digit ≤ 9 → (18446744073709551615 - digit) / 10 < number → number * 10 + digit ≤ all → 18446744073709551616 ≤ all
too_great number digit all small great below = omega arith

pub overflow_sub-digit : goal.overflow_sub-digit
overflow_sub-digit c = (digit_at c.args.digits.now c.loop-byte.byte-index c.requires c.loop-byte-test.true).0

pub loop-byte-preserved : goal.loop-byte-preserved
loop-byte-preserved c = next_value c.args.digits.now c.loop-byte.byte-index c.loop-byte.number c.requires c.loop-byte-test.true c.loop-byte.invariant

pub returns-then-number-digit : goal.returns-then-number-digit
returns-then-number-digit c =
    let digits = c.args.digits.now in
    let i = c.loop-byte.byte-index in
    let number = c.loop-byte.number in
    let range = digit_at digits i c.requires c.loop-byte-test.true in
    let front = digits_value-take-le 10 digits (i + 1) (omega arith) in
    let value = next_value digits i number c.requires c.loop-byte-test.true c.loop-byte.invariant in
    too_great number (get_or digits i 0 - 48) (digits_value 10 digits) (omega (arith, range.1)) c.if-number-digit.true (omega (arith, front, value))
