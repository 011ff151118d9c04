use Rattle.std.proofs.Common.{◌≡◌, ◌∙◌, sym}
use Rattle.mufom_place.specs.declared.refusal.PlaceRefusal.TheVariants.{Misfit, Unplaced}
use Rattle.mufom_explain.proofs.PlacedLaws.{all-placed}
use Rattle.mufom_explain.proofs.locate.about_placement.Goals as goal

pub about_misfit-requires-clause-listed : goal.about_misfit-requires-clause-listed
about_misfit-requires-clause-listed c =
    all-placed c.args.context.now.«module».now c.args.context.now.plan.now c.args.refusal
    (λ n same. let both : Misfit c.in-Misfit.section c.in-Misfit.region ≡ Unplaced n = sym c.in-Misfit.is ∙ same in cc) c.requires.met
