-- The plan for the generated modules, and the location by it.
use Rattle.std.proofs.Common.{◌≡◌, ℕ, ◌≤◌, ◌∷◌, [], Result, Ok, Err, IfOk, IfErr, ap, ◌∙◌, subst, arith}
use Rattle.std.specs.List.{IsDistinct}
use Rattle.mufom_module.specs.declared.module.Parts.{Parts}
use Rattle.mufom_plan.specs.declared.plan.Plan.{Plan}
use Rattle.mufom_meaning.specs.declared.located.LocatedParts.{LocatedParts}
use Rattle.mufom_meaning.specs.Location.{IsLocation}
use Rattle.mufom_meaning.specs.LocateAnswer.{locate_answer}
use Rattle.mufom_refusals.specs.declared.locate.LocateRefusal.{LocateRefusal}
use Rattle.mufom_plan.specs.SoundPlans.{IsSoundPlan}
use Rattle.mufom_image.specs.Refusals.{IsMet}
use Rattle.mufom_make.specs.Generated.{made_modules, made_plan}
use Rattle.mufom_make.specs.Links.{IsLinkOf}
use Rattle.mufom_make.proofs.LinkLaws.{link-means}

pub sound-plan : (count : ℕ) → IsSoundPlan (made_plan count)
unfolding IsDistinct
sound-plan count = record { names = (tt, tt); regions = omega arith; common = omega arith }

-- the location of the link is that of the generated modules
pub location-of-all : (r : Result LocatedParts LocateRefusal) (count : ℕ) (M : Parts) (plan : Plan) → count ≤ 65536 → IsLinkOf M (made_modules count)
    → plan ≡ made_plan count
    → IfOk r (IsLocation (M ∷ []) plan) → IfOk r (IsLocation (made_modules count) (made_plan count))
location-of-all (Err e) count M plan few link same located = tt
location-of-all (Ok parts) count M plan few link same located =
    ((link-means count M few link).same_location (made_plan count) parts).0 (subst (λ (p : Plan). IsLocation (M ∷ []) p parts) same located)

-- what is returned in its place is what is returned for the generated modules
pub refusal-of-all : (r : Result LocatedParts LocateRefusal) (count : ℕ) (M : Parts) (plan : Plan) → count ≤ 65536 → IsLinkOf M (made_modules count)
    → plan ≡ made_plan count
    → IfErr r (IsMet (locate_answer (M ∷ []) plan)) → IfErr r (IsMet (locate_answer (made_modules count) (made_plan count)))
refusal-of-all r count M plan few link same refused =
    subst (λ answer. IfErr r (IsMet answer)) (ap (locate_answer (M ∷ [])) same ∙ (link-means count M few link).same_locate (made_plan count)) refused
