use Rattle.std.proofs.Common.{◌∷◌, ap, sym, ◌∙◌}
use Rattle.mufom_build_text.proofs.Fronts.{by_itself, by_digits}
use Rattle.mufom_build_text.proofs.spelled.split_name_byte.Goals as goal

pub returns-then-stands_for_itself-clause-front : goal.returns-then-stands_for_itself-clause-front
returns-then-stands_for_itself-clause-front c =
    by_itself _ _ _ c.in_ok-first.ensures.cases.0 (sym c.stands_for_itself.ensures ∙ c.if-stands_for_itself.true)

pub returns-clause-front : goal.returns-clause-front
returns-clause-front c = by_digits _ _ c.in_ok-first.after.now c.in_ok-second.digits.now _
    (c.in_ok-first.ensures.cases.0 ∙ ap (λ b. b ∷ c.in_ok-first.after.now) c.if-first-ne92.false)
    (c.in_ok-second.ensures.cases.0 ∙ ap (λ b. b ∷ c.in_ok-second.digits.now) c.if-second-ne120.false)
    c.in_ok-byte.ensures.front
