use Rattle.std.proofs.Common.{◌≡◌, ◌-◌, ◌∷◌, ◌++◌, ◌∙◌, List, ℕ, [], ap, arith}
use Rattle.mufom_words.specs.Sound.{numbers_from}
use Rattle.mufom_groups.proofs.RefusedLaws.{numbers-next}
use Rattle.mufom_groups.proofs.refused.numbers_of.Goals as goal

pub loop-number-preserved : goal.loop-number-preserved
loop-number-preserved c =
    c.in_ok-push.ensures.ok
    ∙ ap (λ (l : List ℕ). l ++ c.loop-number.number ∷ []) c.loop-number.invariant
    ∙ numbers-next c.args.range.first c.loop-number.number (omega (arith, c.loop-number.auto.number))

pub returns : goal.returns
returns c =
    let same : c.loop-number.number - c.args.range.first ≡ c.args.range.end - c.args.range.first
    = omega (arith, c.loop-number-test.false, c.loop-number.auto.number, c.loop-number.auto.number-end, c.max-end.ensures) in
    c.loop-number.invariant ∙ ap (numbers_from c.args.range.first) same
