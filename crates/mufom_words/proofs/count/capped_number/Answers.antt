use Rattle.std.proofs.Common.{◌≡◌, ◌+◌, ◌-◌, ◌*◌, ◌∙◌, ap, arith, drop, get_or, map, sym}
use Rattle.std.specs.Prelude.{min}
use Rattle.std.specs.Int.Digits.{number_from_digits_after}
use Rattle.std.proofs.lemmas.List.{drop_more}
use Rattle.mufom_words.proofs.CountLaws.{capped-after}
use Rattle.mufom_words.proofs.count.capped_number.Goals as goal

pub loop-digit-preserved : goal.loop-digit-preserved
loop-digit-preserved c =
    let digits = c.args.digits.now in
    let i = c.loop-digit.digit-index in
    let next = c.loop-digit.number * 10 + (get_or digits i 0 - 48) in
    let rest = map (λ b. b - 48) (drop (i + 1) digits) in
    let is : c.min-number.result ≡ min next 65537 = c.min-number.ensures ∙ ap (λ s. min (c.loop-digit.number * 10 + s) 65537) c.saturating_sub.ensures in
    let more = ap (λ ds. number_from_digits_after 10 c.loop-digit.number (map (λ b. b - 48) ds)) (drop_more digits i 0 c.loop-digit-test.true) in
    record {
      rest = ap (λ n. min 65537 (number_from_digits_after 10 n rest)) is ∙ capped-after 65537 next rest ∙ ap (min 65537) (sym more)
          ∙ c.loop-digit.invariant.rest;
      bound = grind (arith, is);
    }
