use Rattle.std.proofs.Common.{◌≡◌, ◌∙◌, List, [], ◌∷◌, sym, ap, subst}
use Rattle.mufom_module.specs.Written.{weight}
use Rattle.mufom_meaning.specs.Absolute.{absolute_of}
use Rattle.mufom_meaning.specs.LocateAnswer.{locate_answer}
use Rattle.mufom_image.specs.Refusals.{IsMet}
use Rattle.mufom_locating.specs.Refusals.{list_fact}
use Rattle.mufom_locating.proofs.JoinLaws.{list_fact-of_list}
use Rattle.mufom_locating.proofs.LightLaws.{light-enough}
use Rattle.mufom_locating.proofs.locating.locate_plain.Goals as goal

pub returns-in-Ok-clause-located : goal.returns-in-Ok-clause-located
returns-in-Ok-clause-located c =
    let law = c.plain_plans_mean_the_same.ensures (c.args.module.now ∷ []) c.args.plan.now c.requires.plain.symbols c.requires.plain.loads in
    (law.1 c.in-Ok.located).1 c.in-Ok.ensures.located

pub returns-in-Ok-clause-light : goal.returns-in-Ok-clause-light
returns-in-Ok-clause-light c =
    light-enough c.args.module.now c.args.plan.now (weight (absolute_of c.in-Ok.located)) c.requires.light c.in-Ok.ensures.located.locates c.in-Ok.ensures.light

pub returns-in-Err-clause-refused : goal.returns-in-Err-clause-refused
returns-in-Err-clause-refused c =
    let ms = c.args.module.now ∷ [] in
    let law = c.plain_plans_mean_the_same.ensures ms c.args.plan.now c.requires.plain.symbols c.requires.plain.loads in
    subst (λ o. IsMet o c.in-Err.refusal) (sym (ap list_fact law.0 ∙ list_fact-of_list (locate_answer ms c.args.plan.now))) c.in-Err.ensures.refused
