use Rattle.std.proofs.Common.{[], ◌∷◌, subst}
use Rattle.mufom_locating.specs.Refusals.{IsMetBy}
use Rattle.mufom_planned.specs.Planned.{planned_answer}
use Rattle.mufom_explain_modules.proofs.explain_modules.explain_unlocated.Goals as goal

pub returns-in-SharedName : goal.returns-in-SharedName
returns-in-SharedName g c = λ files ms keep made is.
    let part = c.args.part.now in let plan = c.args.plan.now in
    c.explain_shared_name.ensures files ms keep made part.«module» part.origins is
    (subst (IsMetBy (planned_answer (part.«module» ∷ []) plan)) c.in-SharedName.is c.requires.met)

pub explain_planned-requires-clause-met : goal.explain_planned-requires-clause-met
explain_planned-requires-clause-met g c =
    subst (IsMetBy (planned_answer (c.args.part.now.«module» ∷ []) c.args.plan.now)) c.in-Locate.is c.requires.met

pub returns-in-Locate : goal.returns-in-Locate
returns-in-Locate g c = λ files ms keep made is. c.explain_planned.ensures files c.args.inputs.now ms keep made is
