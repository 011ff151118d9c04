use Rattle.std.proofs.Common.{get_or, [], ◌∷◌, ◌∙◌, ◌/◌, ◌%◌}
use Rattle.std.specs.Prelude.{slice_index}
use Rattle.hex.specs.Hex.{encode_with, upper_digits}
use Rattle.mufom_text.proofs.digits.digits_of.Goals as goal

pub returns : goal.returns
unfolding encode_with
returns c = let e = c.to_be_bytes-bytes.ensures in λ i.
    (c.high_digit.ensures ∙ (λ j. slice_index upper_digits (get_or (e j) 0 0 / 16))) i
    ∷ (c.low_digit.ensures ∙ (λ j. slice_index upper_digits (get_or (e j) 0 0 % 16))) i
    ∷ (c.high_digit-2.ensures ∙ (λ j. slice_index upper_digits (get_or (e j) 1 0 / 16))) i
    ∷ (c.low_digit-2.ensures ∙ (λ j. slice_index upper_digits (get_or (e j) 1 0 % 16))) i
    ∷ (c.high_digit-3.ensures ∙ (λ j. slice_index upper_digits (get_or (e j) 2 0 / 16))) i
    ∷ (c.low_digit-3.ensures ∙ (λ j. slice_index upper_digits (get_or (e j) 2 0 % 16))) i
    ∷ (c.high_digit-4.ensures ∙ (λ j. slice_index upper_digits (get_or (e j) 3 0 / 16))) i
    ∷ (c.low_digit-4.ensures ∙ (λ j. slice_index upper_digits (get_or (e j) 3 0 % 16))) i
    ∷ (c.high_digit-5.ensures ∙ (λ j. slice_index upper_digits (get_or (e j) 4 0 / 16))) i
    ∷ (c.low_digit-5.ensures ∙ (λ j. slice_index upper_digits (get_or (e j) 4 0 % 16))) i
    ∷ (c.high_digit-6.ensures ∙ (λ j. slice_index upper_digits (get_or (e j) 5 0 / 16))) i
    ∷ (c.low_digit-6.ensures ∙ (λ j. slice_index upper_digits (get_or (e j) 5 0 % 16))) i
    ∷ (c.high_digit-7.ensures ∙ (λ j. slice_index upper_digits (get_or (e j) 6 0 / 16))) i
    ∷ (c.low_digit-7.ensures ∙ (λ j. slice_index upper_digits (get_or (e j) 6 0 % 16))) i
    ∷ (c.high_digit-8.ensures ∙ (λ j. slice_index upper_digits (get_or (e j) 7 0 / 16))) i
    ∷ (c.low_digit-8.ensures ∙ (λ j. slice_index upper_digits (get_or (e j) 7 0 % 16))) i ∷ []
