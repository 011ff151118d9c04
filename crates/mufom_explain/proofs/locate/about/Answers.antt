use Rattle.std.proofs.Common.{subst, [], ◌∷◌}
use Rattle.mufom_image.specs.Refusals.{IsMet}
use Rattle.mufom_planned.specs.Planned.{copied_answer}
use Rattle.mufom_explain.proofs.WalkedLaws.{acyclic-overflown, placed-overflown}
use Rattle.mufom_explain.proofs.locate.about.Goals as goal

pub about_field-requires-clause-placed : goal.about_field-requires-clause-placed
about_field-requires-clause-placed c =
    let m = c.args.context.now.«module».now in let plan = c.args.context.now.plan.now in
    placed-overflown m plan _ _ _ _ _ (subst (IsMet (copied_answer (m ∷ []) plan)) c.in-Overflow.is c.requires.met)

pub about_field-requires-clause-acyclic : goal.about_field-requires-clause-acyclic
about_field-requires-clause-acyclic c =
    let m = c.args.context.now.«module».now in let plan = c.args.context.now.plan.now in
    acyclic-overflown m plan _ _ _ _ _ (subst (IsMet (copied_answer (m ∷ []) plan)) c.in-Overflow.is c.requires.met)
