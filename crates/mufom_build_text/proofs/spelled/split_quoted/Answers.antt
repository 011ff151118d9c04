use Rattle.std.proofs.Common.{◌∷◌, ap, ◌∙◌}
use Rattle.mufom_build_text.proofs.Names.{quoted_front, quoted_inside}
use Rattle.mufom_build_text.proofs.spelled.split_quoted.Goals as goal

pub returns-clause-front : goal.returns-clause-front
returns-clause-front c = quoted_front c.split_name.result (λ p. p.0.items) (λ p. p.1.now) c.args.text.now c.in-Some.inside.now
    (c.in-Some.ensures.cases.0 ∙ ap (λ b. b ∷ c.in-Some.inside.now) c.if-first-ne34.false) c.split_name.ensures.front

pub returns-clause-takes : goal.returns-clause-takes
returns-clause-takes c = λ bytes front rest is spelled.
    let (same, (within, inside, within_spelled)) =
    quoted_inside bytes c.args.text.now c.in-Some.inside.now front rest c.in-Some.first.now c.in-Some.ensures.cases.0 is spelled in
    c.split_name.ensures.takes bytes within rest inside within_spelled
