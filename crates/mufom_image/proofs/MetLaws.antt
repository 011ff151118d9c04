-- The fact found in one stage of locating is the result, if no fact is found in the stages before it.
use Rattle.std.proofs.Common.{◌≡◌, [], ◌∷◌, Option, Some, None, refl, sym, ◌∙◌, ap, subst}
use Rattle.mufom_module.specs.declared.module.Parts.{Parts}
use Rattle.mufom_plan.specs.declared.plan.Plan.{Plan}
use Rattle.mufom_place.specs.Facts.{◌or_else◌}
use Rattle.mufom_meaning.specs.Facts.{LocateFact}
use Rattle.mufom_meaning.specs.LocateAnswer.{locate_answer}
use Rattle.mufom_meaning.specs.Placed.{planned_bases}
use Rattle.mufom_meaning.specs.Values.{setting}
use Rattle.mufom_meaning.specs.Walk.{walk_answer}
use Rattle.mufom_meaning.proofs.Unfolding.{locate_answer-order}
use Rattle.mufom_refusals.specs.declared.locate.LocateRefusal.{LocateRefusal}
use Rattle.mufom_refusals.specs.declared.locate.LocateRefusal.TheVariants as refusals
use Rattle.mufom_image.specs.Refusals.{IsMet}
use Rattle.mufom_image.specs.Stages.{unplaced, unresolved, roomless, circular, oversized, judged, IsJudged}

-- a fact that is found comes before all others
pub met-first : (met other : Option LocateFact) (refusal : LocateRefusal) → IsMet met refusal → IsMet (met or_else other) refusal
met-first met other (refusals.Place refusal) h = ap (λ o. o or_else other) h
met-first met other (refusals.Undefined name) h = ap (λ o. o or_else other) h
met-first met other (refusals.CommonUnplaced name) h = ap (λ o. o or_else other) h
met-first met other (refusals.Cycle name) h = ap (λ o. o or_else other) h
met-first met other (refusals.DivideByZero site) h = ap (λ o. o or_else other) h
met-first met other (refusals.Overflow section address kind size value) h = ap (λ o. o or_else other) h
met-first met other (refusals.LoadOutside section address) h = ap (λ o. o or_else other) h
met-first met other (refusals.LoadedTwice address) h = ap (λ o. o or_else other) h
met-first met other (refusals.ImageLimit count) h = ap (λ o. o or_else other) h
met-first met other refusals.NoMemory h = tt {0}

-- a fact that is found after a stage in which none is found
pub met-after : (before met : Option LocateFact) (refusal : LocateRefusal) → before ≡ None → IsMet met refusal → IsMet (before or_else met) refusal
met-after before met refusal none h = subst (λ o. IsMet (o or_else met) refusal) (sym none) h

-- no fact is found, if none is found first and none after it
pub none-met : (before after : Option LocateFact) → before ≡ None → after ≡ None → before or_else after ≡ None
none-met before after first then = ap (λ o. o or_else after) first ∙ then

grouped : {A : Type 0} (a b c : Option A) → (a or_else b) or_else c ≡ a or_else (b or_else c)
grouped (Some x) b c = refl
grouped None b c = refl

module _ (m : Parts) (plan : Plan) where
  abbrev walk : Option LocateFact
  walk = walk_answer (m ∷ []) (setting (m ∷ []) (planned_bases (m ∷ []) plan))

  -- what is returned, in three stages
  stages : locate_answer (m ∷ []) plan ≡ (unplaced m plan or_else (judged m plan or_else walk))
  stages =
      locate_answer-order (m ∷ []) plan
      ∙ ap (λ o. unplaced m plan or_else o)
      (sym (grouped (unresolved m) (roomless m plan or_else (circular m or_else oversized m)) walk
      ∙ ap (λ o. unresolved m or_else o)
      (grouped (roomless m plan) (circular m or_else oversized m) walk
      ∙ ap (λ o. roomless m plan or_else o) (grouped (circular m) (oversized m) walk))))

  nothing-judged : IsJudged m plan → judged m plan ≡ None
  nothing-judged clear =
      none-met (unresolved m) (roomless m plan or_else (circular m or_else oversized m)) clear.undefined
      (none-met (roomless m plan) (circular m or_else oversized m) clear.commons (none-met (circular m) (oversized m) clear.acyclic clear.limit))

  pub unplaced-answered : (refusal : LocateRefusal) → IsMet (unplaced m plan) refusal → IsMet (locate_answer (m ∷ []) plan) refusal
  unplaced-answered refusal h = subst (λ o. IsMet o refusal) (sym stages) (met-first (unplaced m plan) (judged m plan or_else walk) refusal h)

  pub judged-answered : unplaced m plan ≡ None → (refusal : LocateRefusal) → IsMet (judged m plan) refusal → IsMet (locate_answer (m ∷ []) plan) refusal
  judged-answered placed refusal h =
      subst (λ o. IsMet o refusal) (sym stages) (met-after (unplaced m plan) (judged m plan
      or_else walk) refusal placed (met-first (judged m plan) walk refusal h))

  pub walk-answered : unplaced m plan ≡ None → IsJudged m plan → (refusal : LocateRefusal) → IsMet walk refusal → IsMet (locate_answer (m ∷ []) plan) refusal
  walk-answered placed clear refusal h =
      subst (λ o. IsMet o refusal) (sym stages)
      (met-after (unplaced m plan) (judged m plan or_else walk) refusal placed (met-after (judged m plan) walk refusal (nothing-judged clear) h))

  pub nothing-answered : unplaced m plan ≡ None → IsJudged m plan → walk ≡ None → locate_answer (m ∷ []) plan ≡ None
  nothing-answered placed clear none =
      stages ∙ none-met (unplaced m plan) (judged m plan or_else walk) placed (none-met (judged m plan) walk (nothing-judged clear) none)
