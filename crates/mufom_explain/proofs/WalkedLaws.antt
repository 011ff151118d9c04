-- A fact of the walk over a module is found only if the plan places the module and no public leads back to itself.
use Rattle.std.proofs.Common.{◌≡◌, List, [], ◌∷◌, Option, Some, None, Bool, true, false, ℕ, refl, sym, ap, ◌∙◌}
use Rattle.std.specs.Prelude.{option_map, if◌then◌else◌}
use Rattle.mufom_expr.specs.declared.token.FieldKind.{FieldKind}
use Rattle.mufom_module.specs.declared.module.Parts.{Parts}
use Rattle.mufom_plan.specs.declared.plan.Plan.{Plan}
use Rattle.mufom_place.specs.Facts.{◌or_else◌, first_some}
use Rattle.mufom_meaning.specs.declared.located.Site.{Site}
use Rattle.mufom_meaning.specs.Cycles.{is_on_cycle}
use Rattle.mufom_meaning.specs.Facts.{LocateFact, placement, undefined, common_unplaced, cycle, image_limit, zero_divisor, load_outside, loaded_twice, overflow}
use Rattle.mufom_meaning.specs.Flat.{flat_sections, public_names, width}
use Rattle.mufom_meaning.specs.LocateAnswer.{after_placing as after, cycle_at, image_limit_at, locate_answer}
use Rattle.mufom_planned.specs.Layout.{layout}
use Rattle.mufom_planned.specs.Planned.{copied_answer, layout_fact}
use Rattle.mufom_place.specs.declared.refusal.PlaceRefusal.{PlaceRefusal}
use Rattle.mufom_place.proofs.CopyLaws.{fits_without_copies}
use Rattle.mufom_meaning.specs.Counts.{loaded_total}
use Rattle.mufom_meaning.specs.Placed.{placed_commons, planned_bases}
use Rattle.mufom_meaning.specs.Values.{setting}
use Rattle.mufom_meaning.specs.Walk.{walk_answer}
use Rattle.mufom_meaning.proofs.Unfolding.{locate_answer-order}
use Rattle.mufom_image.specs.Placements.{placing_refusal}
use Rattle.mufom_image.specs.Stages.{circular, roomless, unplaced, unresolved}

-- the fact is one of the walk
abbrev is_walked : LocateFact → Bool
is_walked (placement r) = false
is_walked (undefined name) = false
is_walked (common_unplaced name) = false
is_walked (cycle name) = false
is_walked (image_limit count) = false
is_walked (zero_divisor site) = true
is_walked (load_outside section address) = true
is_walked (loaded_twice address) = true
is_walked (overflow section address kind size value) = true

not-mapped : {A : Type 0} (make : A → LocateFact) → ((a : A) → is_walked (make a) ≡ false) → (o : Option A) (f : LocateFact) → is_walked f ≡ true
    → option_map make o ≡ Some f → ⊥
not-mapped make never None f walked h = absurd cc
not-mapped make never (Some a) f walked h =
    let same : make a ≡ f = cc in
    let both : true ≡ false = sym walked ∙ ap is_walked (sym same) ∙ never a in
    absurd cc

not-cycle : (ms : List Parts) (f : LocateFact) → is_walked f ≡ true → (names : List (List ℕ)) → first_some (cycle_at ms) names ≡ Some f → ⊥
not-cycle ms f walked [] h = absurd cc
not-cycle ms f walked (name ∷ names) h = by_case (is_on_cycle ms name) h (not-cycle ms f walked names) where
  by_case : (b : Bool) → ((if b then Some (cycle name) else None) or_else first_some (cycle_at ms) names) ≡ Some f
      → (first_some (cycle_at ms) names ≡ Some f → ⊥) → ⊥
  by_case true h later =
      let same : cycle name ≡ f = cc in
      let both : true ≡ false = sym walked ∙ ap is_walked (sym same) in
      absurd cc
  by_case false h later = later h

-- a fact that an earlier stage does not find is found by a later one
found-after : {A : Type 0} (first more : Option A) (f : A) → (first ≡ Some f → ⊥) → (first or_else more) ≡ Some f → (first ≡ None) × (more ≡ Some f)
found-after None more f not_first h = (refl, h)
found-after (Some g) more f not_first h = absurd (not_first h)

none-mapped : {A B : Type 0} (make : A → B) (o : Option A) → option_map make o ≡ None → o ≡ None
none-mapped make None h = refl
none-mapped make (Some a) h = absurd cc

module _ (m : Parts) (plan : Plan) (f : LocateFact) (walked : is_walked f ≡ true) (found : locate_answer (m ∷ []) plan ≡ Some f) where
  abbrev later : Option LocateFact
  later = image_limit_at (loaded_total (m ∷ [])) or_else walk_answer (m ∷ []) (setting (m ∷ []) (planned_bases (m ∷ []) plan))

  after_placing : (unplaced m plan ≡ None) × ((unresolved m or_else (roomless m plan or_else (circular m or_else later))) ≡ Some f)
  after_placing =
      found-after (unplaced m plan) (unresolved m or_else (roomless m plan or_else (circular m or_else later))) f
      (not-mapped placement (λ r. refl) (placing_refusal m plan) f walked) (sym (locate_answer-order (m ∷ []) plan) ∙ found)

  -- the plan places the module
  placed-walked : placing_refusal m plan ≡ None
  placed-walked = none-mapped placement (placing_refusal m plan) after_placing.0

  -- and no public leads back to itself
  acyclic-walked : circular m ≡ None
  acyclic-walked =
      let names = found-after (unresolved m) (roomless m plan or_else (circular m or_else later)) f (not-mapped undefined (λ r. refl) _ f walked) after_placing.1 in
      let rooms = found-after (roomless m plan) (circular m or_else later) f (not-mapped common_unplaced (λ r. refl) _ f walked) names.1 in
      (found-after (circular m) later f (not-cycle (m ∷ []) f walked (public_names (m ∷ []))) rooms.1).0

-- such a fact is found without copies too
located-copied : (m : Parts) (plan : Plan) (f : LocateFact) → is_walked f ≡ true → copied_answer (m ∷ []) plan ≡ Some f → locate_answer (m ∷ []) plan ≡ Some f
unfolding locate_answer
located-copied m plan f walked found =
    let ms = m ∷ [] in
    let parts = found-after (layout_fact ms (layout ms plan)) (after ms plan) f (not-mapped placement (λ r. refl) _ f walked) found in
    let fits = fits_without_copies (width ms) plan (flat_sections ms) (placed_commons ms plan) (layout ms plan).copied (none-mapped placement _ parts.0) in
    ap (λ (o : Option PlaceRefusal). option_map placement o or_else after ms plan) fits ∙ parts.1

module _ (m : Parts) (plan : Plan) (site : Site) (found : copied_answer (m ∷ []) plan ≡ Some (zero_divisor site)) where
  pub placed-divided : placing_refusal m plan ≡ None
  placed-divided = placed-walked m plan (zero_divisor site) refl (located-copied m plan (zero_divisor site) refl found)

  pub acyclic-divided : circular m ≡ None
  acyclic-divided = acyclic-walked m plan (zero_divisor site) refl (located-copied m plan (zero_divisor site) refl found)

module _ (m : Parts) (plan : Plan) (section address : ℕ) (kind : FieldKind) (size value : ℕ)
    (found : copied_answer (m ∷ []) plan ≡ Some (overflow section address kind size value)) where
  abbrev fact : LocateFact
  fact = overflow section address kind size value

  pub placed-overflown : placing_refusal m plan ≡ None
  placed-overflown = placed-walked m plan fact refl (located-copied m plan fact refl found)

  pub acyclic-overflown : circular m ≡ None
  acyclic-overflown = acyclic-walked m plan fact refl (located-copied m plan fact refl found)
