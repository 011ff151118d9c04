use Rattle.std.proofs.Common.{[], ◌∷◌, Option, subst, sym}
use Rattle.mufom_names.specs.Names.{names_of, AreDistinct}
use Rattle.mufom_module.specs.declared.module.Parts.{Parts}
use Rattle.mufom_meaning.specs.Facts.{LocateFact}
use Rattle.mufom_image.specs.Refusals.{IsMet}
use Rattle.mufom_planned.proofs.Plain.{plain_answer}
use Rattle.mufom_origins_tests.proofs.explanations.refusal.Goals as goal

pub locate-requires-clause-names : goal.locate-requires-clause-names
locate-requires-clause-names g c = subst (λ (parts : Parts). AreDistinct (names_of parts.names.publics)) c.parts.ensures.same c.in-None.ensures

pub returns-clause-names : goal.returns-clause-names
returns-clause-names g c = subst (λ (parts : Parts). AreDistinct (names_of parts.names.publics)) c.parts.ensures.same c.in-None.ensures

pub returns-clause-met : goal.returns-clause-met
returns-clause-met g c =
    let loads = c.loads_in_place.ensures c.if-not-loads_in_place.false in
    subst (λ (o : Option LocateFact). IsMet o c.in-Err.refusal) (sym (plain_answer (c.args.module.now ∷ []) c.args.plan.now loads)) c.in-Err.ensures.refused
