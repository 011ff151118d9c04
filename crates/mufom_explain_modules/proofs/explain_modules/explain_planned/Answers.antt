use Rattle.std.proofs.Common.{[], ◌∷◌, ◌≡◌, ◌∙◌, sym, true, false}
use Rattle.mufom_works.proofs.EndLaws.{met-listed}
use Rattle.mufom_explain_modules.proofs.ToldEnds.{located-alone, located-linked, met-alone, met-linked}
use Rattle.mufom_explain_modules.proofs.explain_modules.explain_planned.Goals as goal

-- without symbols

pub explain_fact-requires-clause-met : goal.explain_fact-requires-clause-met
explain_fact-requires-clause-met g c =
    met-alone c.args.part.now.«module» c.args.plan.now (c.is_empty.ensures.0 c.if-is_empty.true) c.args.refusal.now c.requires.memory c.requires.met

pub returns-then-is_empty : goal.returns-then-is_empty
returns-then-is_empty g c = λ files inputs ms keep made is.
    c.explain_fact.ensures files inputs ms keep made is
    (located-alone c.args.part.now.«module» c.args.plan.now (c.is_empty.ensures.0 c.if-is_empty.true)) c.requires.met

-- with symbols

pub with_plan_symbols-requires-clause-unshared : goal.with_plan_symbols-requires-clause-unshared
with_plan_symbols-requires-clause-unshared g c =
    (met-listed (c.args.part.now.«module» ∷ []) c.args.plan.now c.args.refusal.now c.requires.memory c.requires.met).0

pub explain_fact-requires-in-Ok-clause-met : goal.explain_fact-requires-in-Ok-clause-met
explain_fact-requires-in-Ok-clause-met g c =
    met-linked c.args.part.now.«module» c.in-Ok.module c.args.plan.now c.in-Ok.ensures.answers c.args.refusal.now c.requires.memory c.requires.met

pub returns-in-Ok : goal.returns-in-Ok
returns-in-Ok g c = λ files inputs ms keep made is.
    c.explain_fact-in-Ok.ensures files inputs ms keep made is
    (located-linked c.args.part.now.«module» c.in-Ok.module c.args.plan.now
    (λ empty. let never : true ≡ false = sym (c.is_empty.ensures.1 empty) ∙ c.if-is_empty.false in cc)
    c.in-Ok.ensures.joined c.in-Ok.ensures.means) c.requires.met
