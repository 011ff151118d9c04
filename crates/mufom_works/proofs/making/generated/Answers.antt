use Rattle.std.proofs.Common.{ℕ, refl, sym, ap, subst, ◌∙◌}
use Rattle.mufom_make.specs.Generated.{made_modules, made_plan}
use Rattle.mufom_outcome.specs.declared.outcome.Outcome.{Outcome}
use Rattle.mufom_works.specs.Works.{located}
use Rattle.mufom_works.specs.WorkEnds.{EndsAt}
use Rattle.mufom_outcome.specs.Outcomes.{outcome_of_locate}
use Rattle.mufom_works.proofs.EndLaws.{plain-ends, plain-located}
use Rattle.mufom_works.proofs.MadeLaws.{made-units}
use Rattle.mufom_works.proofs.making.generated.Goals as goal

pub returns-in-Ok-clause-ok : goal.returns-in-Ok-clause-ok
returns-in-Ok-clause-ok c = plain-located (made_modules c.args.count) (made_plan c.args.count) refl (refl, tt) c.in-Ok.located c.in-Ok.ensures.located

pub returns-in-Err-clause-stops : goal.returns-in-Err-clause-stops
returns-in-Err-clause-stops c =
    subst (λ (o : Outcome). EndsAt (located (made_plan c.args.count) (made_modules c.args.count)) o)
    (sym (c.outcome_of_locate.ensures ∙ ap (λ (n : ℕ). outcome_of_locate n c.in-Err.refusal) (sym (made-units c.args.count c.requires.some))))
    (plain-ends (made_modules c.args.count) (made_plan c.args.count) refl (refl, tt) c.in-Err.refusal c.in-Err.ensures.refused)
